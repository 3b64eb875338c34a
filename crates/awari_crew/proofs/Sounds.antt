-- A member that is sound stays so in each step.
use Rattle.std.proofs.Common.{◌≡◌, ◌≢◌, ◌⊎◌, ℕ, ◌+◌, ◌/◌, ◌<◌, cond, inl, inr, List, [], ◌∷◌, ◌++◌, length, map, ℤ, sym, ap, subst, subst₂, ◌∙◌, arith}
use Rattle.std.proofs.lemmas.Bool.{cases_eq}
use Rattle.std.proofs.lemmas.List.{map-append}
use Rattle.awari_block.specs.Each.{EachTo}
use Rattle.awari_block.specs.Notes.{Has}
use Rattle.awari_block.specs.Part.{Part}
use Rattle.awari_block.specs.declared.notes.Note.{Note}
use Rattle.awari_block.proofs.BlockLemmas.{eqb_apart, eqb_self}
use Rattle.awari_heard.specs.Heard.{IsSeenAs}
use Rattle.awari_heard.specs.Level.{no_part, part_at}
use Rattle.awari_lines.specs.Rings.{IsOther, SameHistory, owners_of, received_from}
use Rattle.awari_lines.specs.declared.ends.Ends.{Ends}
use Rattle.awari_crew.specs.Members.{IsSound, Receives, SendsAll, ears, heard_of, told_by}
use Rattle.awari_segments.specs.Tellings.{HearsAll, HearsMore, HearsTelling, Tell, Telling, Tells, notes_to}
use Rattle.awari_crew.specs.declared.letters.Letter.{Letter}
use Rattle.awari_crew.proofs.Posts.{other_before}
use Rattle.awari_segments.proofs.Steps.{all_more}
use Rattle.awari_segments.proofs.Tells.{spread_seen, tell_before, tell_either, tell_last, tell_more}

-- ---- what was heard of each member

pub ears_own : (e : Ends Letter) (own : List Telling) → ears e own e.owner ≡ own
ears_own e own = ap (λ b. cond b own (heard_of e e.owner)) (eqb_self e.owner)

pub ears_other : (e : Ends Letter) (own : List Telling) (j : ℕ) → j ≢ e.owner → ears e own j ≡ heard_of e j
ears_other e own j ne = ap (λ b. cond b own (heard_of e j)) (eqb_apart j e.owner ne)

all_seen : (f : Part → List Note) (old new : List Part) → EachTo (λ p q. HearsMore (f p) p q) old new → EachTo IsSeenAs old new
all_seen f old new each = record { many = each.many; each = λ i d low. (each.each i d low).seen }

-- ---- a gain or a distance is opened

pub sound_opened : (value : List ℕ → ℤ) (level span : ℕ) (e : Ends Letter) (old new : List Part) → EachTo (HearsMore []) old new → IsSound value level span e old → IsSound value level span e new
sound_opened value level span e old new each sound = record {
  tellings = sound.tellings;
  sent = sound.sent;
  spread = spread_seen level span old new sound.tellings (all_seen (λ p. []) old new each) sound.spread;
  hears = λ i h.
      let many = each.many in
      let few : i < length old = omega (arith, h, many) in
      all_more value span (owners_of e) (ears e sound.tellings) (ears e sound.tellings) [] (part_at old i) (part_at new i) (each.each i no_part few) (λ j m low tell. tell) (λ m has. elim has [ ]) (λ j m low tell. inl tell) (sound.hears i few);
}

-- ---- rings are looked at

pub sound_looked : (value : List ℕ → ℤ) (level span : ℕ) (a b : Ends Letter) (parts : List Part) → SameHistory a b → IsSound value level span a parts → IsSound value level span b parts
sound_looked value level span a b parts same sound = record {
  tellings = sound.tellings;
  sent = λ k is. let was = other_before a b k same.pairs is in ap (map told_by) (same.sent k was.0) ∙ sound.sent k was;
  spread = sound.spread;
  hears = λ i h. subst₂ (λ (members : ℕ) (of : ℕ → List Telling). HearsAll value span members of (part_at parts i)) (sym owners) (sym (λ d k. ear k d)) (sound.hears i h);
}
  where
    owners : owners_of b ≡ owners_of a
    owners = ap (λ n. n + 1) same.pairs.owners

    own : ears b sound.tellings a.owner ≡ ears a sound.tellings a.owner
    own = subst (λ n. ears b sound.tellings n ≡ sound.tellings) same.pairs.owner (ears_own b sound.tellings) ∙ sym (ears_own a sound.tellings)

    ear : (k : ℕ) → ears b sound.tellings k ≡ ears a sound.tellings k
    ear k = elim (cases_eq k a.owner) [
      | inl at ↦ subst (λ n. ears b sound.tellings n ≡ ears a sound.tellings n) (sym at) own
      | inr other ↦ ears_other b sound.tellings k (λ e. other (e ∙ same.pairs.owner)) ∙ ap (map told_by) (same.received k other) ∙ sym (ears_other a sound.tellings k other)
    ]

-- ---- a letter is heard

module _ (value : List ℕ → ℤ) (level span : ℕ) (a b : Ends Letter) (old new : List Part) (j : ℕ) (letter : Letter) (is_other : IsOther a j) (receives : Receives j letter a b) (each : EachTo (HearsTelling span (told_by letter)) old new)
    (sound : IsSound value level span a old) where
  abbrev ts : List Telling
  ts = sound.tellings

  came : heard_of b j ≡ heard_of a j ++ told_by letter ∷ []
  came = ap (map told_by) receives.came ∙ map-append told_by (received_from a j) (letter ∷ [])

  own_ears : ears b ts a.owner ≡ ears a ts a.owner
  own_ears = subst (λ n. ears b ts n ≡ ts) receives.pairs.owner (ears_own b ts) ∙ sym (ears_own a ts)

  here_ears : ears b ts j ≡ ears a ts j ++ told_by letter ∷ []
  here_ears = ears_other b ts j (λ e. is_other.0 (e ∙ receives.pairs.owner)) ∙ came ∙ ap (λ l. l ++ told_by letter ∷ []) (sym (ears_other a ts j is_other.0))

  other_ears : (k : ℕ) → k ≢ j → ears b ts k ≡ ears a ts k
  other_ears k ne = elim (cases_eq k a.owner) [
    | inl own ↦ subst (λ n. ears b ts n ≡ ears a ts n) (sym own) own_ears
    | inr other ↦ ears_other b ts k (λ e. other (e ∙ receives.pairs.owner)) ∙ ap (map told_by) (receives.others k other ne) ∙ sym (ears_other a ts k other)
  ]

  still : (at k : ℕ) (m : Note) → Tell (ears a ts k) at m → Tell (ears b ts k) at m
  still at k m tell = elim (cases_eq k j) [
    | inl here ↦ subst (λ n. Tell (ears b ts n) at m) (sym here) (subst (λ l. Tell l at m) (sym here_ears) (tell_before (ears a ts j) (told_by letter) at m (subst (λ n. Tell (ears a ts n) at m) here tell)))
    | inr other ↦ subst (λ l. Tell l at m) (sym (other_ears k other)) tell
  ]

  either : (at k : ℕ) (m : Note) → Tell (ears b ts k) at m → Tell (ears a ts k) at m ⊎ Has (notes_to at (told_by letter)) m
  either at k m tell = elim (cases_eq k j) [
    | inl here ↦ elim (tell_either (ears a ts j) (told_by letter) at m (subst (λ l. Tell l at m) here_ears (subst (λ n. Tell (ears b ts n) at m) here tell))) [
      | inl was ↦ inl (subst (λ n. Tell (ears a ts n) at m) (sym here) was)
      | inr is ↦ inr is
    ]
    | inr other ↦ inl (subst (λ l. Tell l at m) (other_ears k other) tell)
  ]

  pub sound_heard : IsSound value level span b new
  sound_heard = record {
    tellings = ts;
    sent = λ k is. let was = other_before a b k receives.pairs is in ap (map told_by) (receives.sent k was.0) ∙ sound.sent k was;
    spread = spread_seen level span old new ts (all_seen (λ p. notes_to (p.start / span) (told_by letter)) old new each) sound.spread;
    hears = λ i h.
        let many = each.many in
        let few : i < length old = omega (arith, h, many) in
        let at = (part_at old i).start / span in
        subst (λ members. HearsAll value span members (ears b ts) (part_at new i)) (sym owners)
        (all_more value span (owners_of a) (ears a ts) (ears b ts) (notes_to at (told_by letter)) (part_at old i) (part_at new i) (each.each i no_part few) (λ k m low tell. still at k m tell)
        (λ m has. (j, is_other.1, subst (λ l. Tell l at m) (sym here_ears) (tell_last (ears a ts j) (told_by letter) at m has))) (λ k m low tell. either at k m tell) (sound.hears i few));
  }
    where
      owners : owners_of b ≡ owners_of a
      owners = ap (λ n. n + 1) receives.pairs.owners

-- ---- a member tells, and hears itself

module _ (value : List ℕ → ℤ) (level span : ℕ) (a b : Ends Letter) (old mid new : List Part) (t : Telling) (tells : Tells level span t old mid) (sends : SendsAll t a b) (each : EachTo (HearsTelling span t) mid new)
    (sound : IsSound value level span a old) where
  abbrev us : List Telling
  us = sound.tellings

  own_more : ears b (us ++ t ∷ []) a.owner ≡ ears a us a.owner ++ t ∷ []
  own_more = subst (λ n. ears b (us ++ t ∷ []) n ≡ us ++ t ∷ []) sends.pairs.owner (ears_own b (us ++ t ∷ [])) ∙ ap (λ l. l ++ t ∷ []) (sym (ears_own a us))

  others_same : (k : ℕ) → k < owners_of a → k ≢ a.owner → ears b (us ++ t ∷ []) k ≡ ears a us k
  others_same k low ne = ears_other b (us ++ t ∷ []) k (λ e. ne (e ∙ sends.pairs.owner)) ∙ ap (map told_by) (sends.received k (ne, low)) ∙ sym (ears_other a us k ne)

  told_still : (at k : ℕ) (m : Note) → k < owners_of a → Tell (ears a us k) at m → Tell (ears b (us ++ t ∷ []) k) at m
  told_still at k m low tell = elim (cases_eq k a.owner) [
    | inl own ↦ subst (λ n. Tell (ears b (us ++ t ∷ []) n) at m) (sym own) (subst (λ l. Tell l at m) (sym own_more) (tell_before (ears a us a.owner) t at m (subst (λ n. Tell (ears a us n) at m) own tell)))
    | inr other ↦ subst (λ l. Tell l at m) (sym (others_same k low other)) tell
  ]

  told_either : (at k : ℕ) (m : Note) → k < owners_of a → Tell (ears b (us ++ t ∷ []) k) at m → Tell (ears a us k) at m ⊎ Has (notes_to at t) m
  told_either at k m low tell = elim (cases_eq k a.owner) [
    | inl own ↦ elim (tell_either (ears a us a.owner) t at m (subst (λ l. Tell l at m) own_more (subst (λ n. Tell (ears b (us ++ t ∷ []) n) at m) own tell))) [
      | inl was ↦ inl (subst (λ n. Tell (ears a us n) at m) (sym own) was)
      | inr is ↦ inr is
    ]
    | inr other ↦ inl (subst (λ l. Tell l at m) (others_same k low other) tell)
  ]

  -- boards that are taken are fresh no longer, and no cell changes
  taken_hears : (p q : Part) (ears : ℕ → List Telling) → q ≡ record p { fresh = q.fresh } → HearsAll value span (owners_of a) ears p → HearsAll value span (owners_of a) ears q
  taken_hears p q ears same all = subst (HearsAll value span (owners_of a) ears) (sym same) (record { heard = all.heard; tallied = all.tallied; told = all.told; all = all.all })

  pub sound_told : IsSound value level span b new
  sound_told = record {
    tellings = us ++ t ∷ [];
    sent = λ k is. let was = other_before a b k sends.pairs is in sends.sent k was ∙ ap (λ l. l ++ t ∷ []) (sound.sent k was);
    spread = spread_seen level span mid new (us ++ t ∷ []) (all_seen (λ p. notes_to (p.start / span) t) mid new each) (tell_more level span t old mid us tells sound.spread);
    hears = λ i h.
        let many = each.many in
        let as_many = tells.same.many in
        let few : i < length mid = omega (arith, h, many) in
        let low : i < length old = omega (arith, few, as_many) in
        let at = (part_at mid i).start / span in
        subst (λ members. HearsAll value span members (ears b (us ++ t ∷ [])) (part_at new i)) (sym owners)
        (all_more value span (owners_of a) (ears a us) (ears b (us ++ t ∷ [])) (notes_to at t) (part_at mid i) (part_at new i) (each.each i no_part few) (told_still at)
        (λ m has. (a.owner, own_low, subst (λ l. Tell l at m) (sym own_more) (tell_last (ears a us a.owner) t at m has))) (told_either at)
        (taken_hears (part_at old i) (part_at mid i) (ears a us) (tells.same.each i no_part low) (sound.hears i low)));
  }
    where
      owners : owners_of b ≡ owners_of a
      owners = ap (λ n. n + 1) sends.pairs.owners

      own_low : a.owner < owners_of a
      own_low = let low = a.numbered in omega (arith, low)
