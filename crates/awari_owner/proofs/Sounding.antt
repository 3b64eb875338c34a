-- An owner that was scanned is sound, and stays so whatever it opens and hears.
use Rattle.std.proofs.Common.{◌≡◌, ℕ, ◌+◌, ◌==◌, ◌<◌, ◌⊎◌, inl, inr, Bool, true, false, cond, List, [], ◌∷◌, ◌++◌, length, get_or, take, drop, zero, suc, All, ℤ, Some, None, refl, sym, ap, subst, ◌∙◌, arith, append_assoc, append-nil}
use Rattle.std.proofs.lemmas.Bool.{false≢true}
use Rattle.std.proofs.lemmas.Bool.Decides.{nat_tests}
use Rattle.std.proofs.lemmas.List.{take_more, get_or_default}
use Rattle.std.proofs.lemmas.List.Elements.{All-nil, All-weaker}
use Rattle.awari_rank.specs.Rank.{rank_of}
use Rattle.awari_block.specs.Notes.{Has}
use Rattle.awari_block.specs.Blocks.{KeepSettled, cell_in}
use Rattle.awari_block.specs.Boards.{Settles}
use Rattle.awari_block.specs.Part.{Part, SameLevel}
use Rattle.awari_block.specs.declared.notes.Kind.TheVariants.{Won}
use Rattle.awari_block.specs.declared.notes.Note.{Note}
use Rattle.awari_block.proofs.BlockLemmas.{keeps_both}
use Rattle.awari_block.proofs.Settling.{settles_both, settles_none}
use Rattle.awari_owner.specs.Owners.{IsShare}
use Rattle.awari_owner.specs.Sound.{HoldsNotes, IsInBlockOf, KeepsHeard, IsOtherOf, IsScannedOwner, IsCurrentNote, OpensGain, OpensWave, OwnerSound, SameStake, TakesNote, TakesNotes, with_taken}
use Rattle.awari_heard.specs.Heard.{IsSeenAs}
use Rattle.awari_owner.proofs.Expecting.{inside_new, inside_old, leaves_old, seen_kept, timely_still}
use Rattle.awari_block.proofs.NoteLists.{Has-append_cases, Has-append_left, Has-append_right}

-- the same notes are due of boards that are spread as they were
held_still : (owners : ℕ) (old new : Part) (j : ℕ) (notes : List Note) → IsSeenAs old new → HoldsNotes owners old j notes → HoldsNotes owners new j notes
held_still owners old new j notes seen h = record {
  once = h.once;
  true_notes = λ m has.
      let (p, q, x, v, d, is, stones, inside, block, spread, note) = h.true_notes m has in
      (p, q, x, v, d, is, stones ∙ sym seen.level, inside_new old new (rank_of q) seen inside, subst (λ l. IsInBlockOf l owners j (rank_of p)) (sym seen.level) block, seen.stays (rank_of q) v d inside spread, note);
  all_notes = λ p q x v d is stones inside block quiet spread.
      let held = inside_old old new (rank_of q) seen inside in
      h.all_notes p q x v d is (stones ∙ seen.level) held (subst (λ l. IsInBlockOf l owners j (rank_of p)) seen.level block) quiet (seen.before (rank_of q) v d held spread);
}

pub timely_all : (old new : Part) → new.level ≡ old.level → new.gain ≡ old.gain → new.wave ≡ old.wave → (notes : List Note) → All (IsCurrentNote old) notes → All (IsCurrentNote new) notes
timely_all old new level gain wave notes all = All-weaker (IsCurrentNote old) (IsCurrentNote new) (λ m. timely_still old new m level gain wave) notes all

-- over the same notes, of which others may be on their way
pub sound_same : (value : List ℕ → ℤ) (owner owners : ℕ) (part : Part) (taken taken' given given' coming coming' : ℕ → List Note)
    → ((j : ℕ) → IsOtherOf owner owners j → taken' j ≡ taken j) → ((j : ℕ) → IsOtherOf owner owners j → given' j ≡ given j)
    → ((j : ℕ) → IsOtherOf owner owners j → All (IsCurrentNote part) (coming j) → All (IsCurrentNote part) (coming' j))
    → OwnerSound value owner owners part taken given coming → OwnerSound value owner owners part taken' given' coming'
sound_same value owner owners part taken taken' given given' coming coming' t g c s = record {
  heard = s.heard;
  tallied = s.tallied;
  hears_own = s.hears_own;
  taken_heard = λ j o m h. s.taken_heard j o m (subst (λ (l : List Note). Has l m) (t j o) h);
  heard_taken = λ m h l. (let e = s.heard_taken m h l in (e.0, e.1, subst (λ (l : List Note). Has l m) (sym (t e.0 e.1)) e.2));
  given_notes = λ j o. subst (HoldsNotes owners part j) (sym (g j o)) (s.given_notes j o);
  opened = λ j o. c j o (s.opened j o);
  fresh = s.fresh;
}

-- a part that was scanned, with nothing taken, given or on its way
pub sound_scanned : (value : List ℕ → ℤ) (n owner owners number : ℕ) (part : Part) (taken given coming : ℕ → List Note) → IsScannedOwner value n owners number part
    → ((j : ℕ) → IsOtherOf owner owners j → taken j ≡ []) → ((j : ℕ) → IsOtherOf owner owners j → given j ≡ []) → ((j : ℕ) → IsOtherOf owner owners j → coming j ≡ [])
    → OwnerSound value owner owners part taken given coming
sound_scanned value n owner owners number part taken given coming s t g c = record {
  heard = [];
  tallied = s.tallied;
  hears_own = s.own;
  taken_heard = λ j o m has. subst (λ (l : List Note). Has l m) (t j o) has;
  heard_taken = λ m has. absurd has;
  given_notes = λ j o. subst (HoldsNotes owners part j) (sym (g j o)) (record {
    once = tt;
    true_notes = λ m has. absurd has;
    all_notes = λ p q x v d is stones inside block quiet spread. (let none : None ≡ Some (v, d) = sym (s.scan.unsettled (rank_of q) inside) ∙ spread.0 in absurd (cc));
  });
  opened = λ j o. subst (All (IsCurrentNote part)) (sym (c j o)) (All-nil (IsCurrentNote part));
  fresh = s.fresh;
}

-- a gain or a distance is opened, with nothing on its way
pub gain_opened : (gain : ℕ) (old new : Part) → OpensGain gain old new → KeepsHeard old new
gain_opened gain old new o = record {
  seen = (let s = o.settles in seen_kept old new s.same.level s.same.start s.size s.stays s.joins);
  tallied = o.tallied;
  own = o.own;
  fresh = o.fresh;
}

pub wave_opened : (dist : ℕ) (old new : Part) → OpensWave dist old new → KeepsHeard old new
wave_opened dist old new o = record {
  seen = subst (IsSeenAs old) (sym o.wave) (record { level = refl; start = refl; len = refl; stays = λ r v d _ h. h; before = λ r v d _ h. h });
  tallied = o.tallied;
  own = o.own;
  fresh = o.fresh;
}

pub sound_opened : (value : List ℕ → ℤ) (owner owners : ℕ) (old new : Part) (taken given coming : ℕ → List Note) → KeepsHeard old new
    → ((j : ℕ) → IsOtherOf owner owners j → coming j ≡ []) → OwnerSound value owner owners old taken given coming → OwnerSound value owner owners new taken given coming
sound_opened value owner owners old new taken given coming opened none s = record {
  heard = s.heard;
  tallied = opened.tallied value s.heard s.tallied;
  hears_own = opened.own s.heard s.hears_own;
  taken_heard = s.taken_heard;
  heard_taken = λ m has leaves. s.heard_taken m has (leaves_old old new m.target m.pit opened.seen leaves);
  given_notes = λ j o. held_still owners old new j (given j) opened.seen (s.given_notes j o);
  opened = λ j o. subst (All (IsCurrentNote new)) (sym (none j o)) (All-nil (IsCurrentNote new));
  fresh = opened.fresh;
}

-- ---- places

pub stake_same : (a : Part) → SameStake a a
stake_same a = record { level = record { level = refl; gain = refl; wave = refl; start = refl }; long = refl; stays = (settles_none a).stays }

-- settled boards that kept value and distance, and kept them again
pub stays_both : (a b c : Part) → b.start ≡ a.start → KeepSettled a.start a.cells b.cells → KeepSettled b.start b.cells c.cells → KeepSettled a.start a.cells c.cells
stays_both a b c at s t rank low =
    keeps_both (cell_in a.start a.cells rank) (cell_in a.start b.cells rank) (cell_in a.start c.cells rank) (s rank low) (subst (λ i. KeepSettled i b.cells c.cells) at t rank low)

pub place_both : (a b c : Part) → SameStake a b → SameStake b c → SameStake a c
place_both a b c s t = record {
  level = record { level = t.level.level ∙ s.level.level; gain = t.level.gain ∙ s.level.gain; wave = t.level.wave ∙ s.level.wave; start = t.level.start ∙ s.level.start };
  long = t.long ∙ s.long;
  stays = stays_both a b c s.level.start s.stays t.stays;
}

-- what settles boards and does no more leaves the stake
pub stake_settled : (a b : Part) → Settles a b → SameStake a b
stake_settled a b s = record { level = s.same; long = s.size; stays = s.stays }

pub share_stake : (n owners i : ℕ) (a b : Part) → SameStake a b → IsShare n owners i a → IsShare n owners i b
share_stake n owners i a b stake share = record {
  level = stake.level.level ∙ share.level;
  start = stake.level.start ∙ share.start;
  end = (let end = share.end in let s = stake.level.start in let l = stake.long in omega (arith, end, s, l));
}

-- ---- notes that are taken

with_none : (taken : ℕ → List Note) (from j : ℕ) → with_taken taken from [] j ≡ taken j
with_none taken from j = at (j == from)
  where
    at : (t : Bool) → cond t (taken j ++ []) (taken j) ≡ taken j
    at true = append-nil (taken j)
    at false = refl

module _ (taken : ℕ → List Note) (from : ℕ) (notes : List Note) (m : Note) where
  last_taken : Has (with_taken taken from (notes ++ m ∷ []) from) m
  last_taken = at (from == from) (same from)
    where
      same : (x : ℕ) → (x == x) ≡ true
      same x = grind (arith, nat_tests)

      at : (t : Bool) → t ≡ true → Has (cond t (taken from ++ (notes ++ m ∷ [])) (taken from)) m
      at true e = Has-append_right (taken from) (notes ++ m ∷ []) m (Has-append_right notes (m ∷ []) m (inl refl))
      at false e = absurd (false≢true e)

  taken_before : (j : ℕ) (n : Note) → Has (with_taken taken from notes j) n → Has (with_taken taken from (notes ++ m ∷ []) j) n
  taken_before j n has = at (j == from) has
    where
      at : (t : Bool) → Has (cond t (taken j ++ notes) (taken j)) n → Has (cond t (taken j ++ (notes ++ m ∷ [])) (taken j)) n
      at true h = subst (λ (l : List Note). Has l n) (append_assoc (taken j) notes (m ∷ [])) (Has-append_left (taken j ++ notes) (m ∷ []) n h)
      at false h = h

  taken_cases : (j : ℕ) (n : Note) → Has (with_taken taken from (notes ++ m ∷ []) j) n → Has (with_taken taken from notes j) n ⊎ (n ≡ m)
  taken_cases j n has = at (j == from) has
    where
      at : (t : Bool) → Has (cond t (taken j ++ (notes ++ m ∷ [])) (taken j)) n → Has (cond t (taken j ++ notes) (taken j)) n ⊎ (n ≡ m)
      at true h = elim (Has-append_cases (taken j ++ notes) (m ∷ []) n (subst (λ (l : List Note). Has l n) (sym (append_assoc (taken j) notes (m ∷ []))) h)) [
        | inl before ↦ inl before
        | inr last ↦ elim last [ inl e ↦ inr e | inr none ↦ absurd none ]
      ]
      at false h = inl h

  sound_more : (old new : Part) → TakesNote m old new → (value : List ℕ → ℤ) (owner owners : ℕ) (given coming : ℕ → List Note) → IsOtherOf owner owners from
      → OwnerSound value owner owners old (with_taken taken from notes) given coming → OwnerSound value owner owners new (with_taken taken from (notes ++ m ∷ [])) given coming
  sound_more old new takes value owner owners given coming apart s = record {
    heard = m ∷ s.heard;
    tallied = takes.tallied value s.heard s.tallied;
    hears_own = takes.own s.heard s.hears_own;
    taken_heard = λ j o n has. elim (taken_cases j n has) [ inl before ↦ inr (s.taken_heard j o n before) | inr last ↦ inl last ];
    heard_taken = λ n has leaves. elim has [
      | inl e ↦ (from, apart, subst (λ (k : Note). Has (with_taken taken from (notes ++ m ∷ []) from) k) (sym e) last_taken)
      | inr before ↦ (let (j, o, took) = s.heard_taken n before (leaves_old old new n.target n.pit seen leaves) in (j, o, taken_before j n took))
    ];
    given_notes = λ j o. held_still owners old new j (given j) seen (s.given_notes j o);
    opened = λ j o. timely_all old new same.level same.gain same.wave (coming j) (s.opened j o);
    fresh = takes.settles.fresh s.fresh;
  }
    where
      same : SameLevel old new
      same = takes.settles.same

      seen : IsSeenAs old new
      seen = let t = takes.settles in seen_kept old new t.same.level t.same.start t.size t.stays t.joins

pub takes_none : (part : Part) → TakesNotes [] part part
takes_none part = record {
  settles = settles_none part;
  sound = λ value owner owners from taken given coming apart s.
      sound_same value owner owners part taken (with_taken taken from []) given given coming coming (λ j o. with_none taken from j) (λ j o. refl) (λ j o h. h) s;
}

pub takes_more : (a b c : Part) (notes : List Note) (m : Note) → TakesNotes notes a b → TakesNote m b c → TakesNotes (notes ++ m ∷ []) a c
takes_more a b c notes m some one = record {
  settles = settles_both a b c some.settles one.settles;
  sound = λ value owner owners from taken given coming apart s.
      sound_more taken from notes m b c one value owner owners given coming apart (some.sound value owner owners from taken given coming apart s);
}

-- ---- notes that are read one by one

abbrev pub no_note : Note
no_note = record { level = 0; target = 0; pit = 0; kind = Won; gain = 0; dist = 0 }

-- a note that is read, behind those before it
pub read_at : (read items : List Note) (k : ℕ) → read ≡ items → k < length items → take k items ++ get_or read k no_note ∷ [] ≡ take (k + 1) items
read_at read items k same low =
    ap (λ (m : Note). take k items ++ m ∷ []) (ap (λ (l : List Note). get_or l k no_note) same ∙ get_or_default items k no_note (get_or read k no_note) low) ∙ sym (take_more items k (get_or read k no_note) low)

-- and before those after it
pub split_at : (read items : List Note) (k : ℕ) → read ≡ items → k < length items → items ≡ take k items ++ get_or read k no_note ∷ drop (suc k) items
split_at read items k same low = at_stake items k low ∙ ap (λ (l : List Note). take k items ++ get_or l k no_note ∷ drop (suc k) items) (sym same)
  where
    at_stake : (items : List Note) (k : ℕ) → k < length items → items ≡ take k items ++ get_or items k no_note ∷ drop (suc k) items
    at_stake [] k low = absurd (omega (arith, low))
    at_stake (m ∷ items) zero low = refl
    at_stake (m ∷ items) (suc k) low = ap (λ l. m ∷ l) (at_stake items k (omega (arith, low)))
