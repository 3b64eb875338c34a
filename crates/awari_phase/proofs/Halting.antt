-- An owner as its worker left it, with a fault or without one.
use Rattle.std.proofs.Common.{◌≡◌, ◌≢◌, ◌⊎◌, ℕ, ◌+◌, ◌==◌, ◌<◌, Bool, true, false, cond, Option, Some, None, List, [], ◌∷◌, ◌++◌, map, All, ℤ, refl, sym, ap, subst, ◌∙◌, inl, inr, arith, vec_len, append_assoc, append-nil, eqb-true}
use Rattle.std.proofs.lemmas.Bool.Decides.{nat_tests}
use Rattle.std.proofs.lemmas.List.{map-append}
use mathlib.Core.List.{IsPrefix}
use Rattle.awari_block.specs.Notes.{Has}
use Rattle.awari_owner.specs.OwnerFault.{IsFaultOf}
use Rattle.awari_owner.specs.Outboxes.{Outboxes, queue_to, notes_of}
use Rattle.awari_block.specs.Part.{Part, HasFarthest}
use Rattle.awari_owner.specs.declared.faults.OwnerFault.{OwnerFault}
use Rattle.awari_owner.specs.declared.faults.OwnerFault.TheVariants.{Far, Memory}
use Rattle.awari_block.specs.declared.notes.Note.{Note}
use Rattle.awari_lines.specs.Rings.{IsOther, SamePairs, owners_of, sent_to, received_from}
use Rattle.awari_lines.specs.declared.ends.Ends.{Ends}
use Rattle.awari_owner.specs.Sound.{IsCurrentNote, OwnerSound, SameStake, with_taken}
use Rattle.awari_block.proofs.NoteLists.{Has-append_right}
use Rattle.awari_owner.proofs.Lists.{notes_of-last}
use Rattle.awari_owner.proofs.Sounding.{place_both, stake_settled, sound_same}
use Rattle.awari_phase.specs.declared.owners.Owner.{Owner}
use Rattle.awari_phase.specs.Owners.{IsOpenBatch, Notes, items_of, taken_from, given_to, notes_boxed, notes_given, notes_taken, IsSound, Kept}
use Rattle.awari_phase.specs.Stops.{HasWorked, StopsAt, StopsTaking, StopsSpreading}
use Rattle.awari_phase.proofs.Keeping.{pairs_then, moved}

-- what is due where the worker had this fault, and these notes of the last batch were not heard
abbrev pub Due : Ends Notes → Part → (ℕ → List Note) → OwnerFault → Type 0
Due e part left fault =
    (fault ≡ Memory)
    ⊎ (((fault ≡ Far) × HasFarthest part)
    ⊎ ((j : ℕ) × (m : Note) × (after : List Note) × IsOther e j × (left j ≡ m ∷ after) × IsFaultOf part m fault))

-- Since it was this one the owner took and sent batches, and heard what it took but for the notes that are left of the last batch.
pub record Halts (value : List ℕ → ℤ) (a : Owner) (e : Ends Notes) (part : Part) (o : Outboxes) (told : Option OwnerFault) (taken left : ℕ → List Note) : Type 0 where
  pub sound : OwnerSound value e.owner (owners_of e) part taken (notes_given e o) (notes_boxed o)
  pub whole : (j : ℕ) → IsOther e j → notes_taken e j ≡ taken j ++ left j
  pub came : (j : ℕ) → IsOther e j → (more : List Notes) × (received_from e j ≡ received_from a.ends j ++ more) × ((m : Note) → Has (left j) m → Has (notes_of (map items_of more)) m)
  pub sent : (j : ℕ) → IsOther e j → (gone : List Notes) × (sent_to e j ≡ sent_to a.ends j ++ gone) × All (IsOpenBatch a.part) (map items_of gone)
  pub block : SameStake a.part part
  pub pairs : SamePairs a.ends e
  pub due : (fault : OwnerFault) → told ≡ Some fault → Due e part left fault

pub IsOther-back : (a b : Ends Notes) (j : ℕ) → SamePairs a b → IsOther b j → IsOther a j
IsOther-back a b j s o = ((λ e. o.0 (e ∙ sym s.owner)), (let p : vec_len b.pairs ≡ vec_len a.pairs = s.owners in let q : j < vec_len b.pairs + 1 = o.1 in omega arith))

-- without a fault, or with one and nothing that it changed
halts_kept : (value : List ℕ → ℤ) (a b : Owner) (told : Option OwnerFault) → Kept a b → ((fault : OwnerFault) → told ≡ Some fault → (fault ≡ Memory) ⊎ ((fault ≡ Far) × HasFarthest b.part))
    → IsSound value a.ends a.part a.outboxes → Halts value a b.ends b.part b.outboxes told (notes_taken b.ends) (λ _. [])
halts_kept value a b told kept why s = record {
  sound = kept.sound value s;
  whole = λ j o. sym (append-nil (notes_taken b.ends j));
  came = λ j o. (let more = kept.received j (IsOther-back a.ends b.ends j kept.pairs o) in (more.0, sym more.1, λ m has. absurd has));
  sent = λ j o. (let gone = kept.sent j (IsOther-back a.ends b.ends j kept.pairs o) in (gone.0, gone.1, gone.2 value s));
  block = kept.block;
  pairs = kept.pairs;
  due = λ fault is. elim (why fault is) [ inl want ↦ inl want | inr far ↦ inr (inl far) ];
}

-- with a fault of a spread
halts_spreading : (value : List ℕ → ℤ) (a u : Owner) (e : Ends Notes) (part : Part) (o : Outboxes) (fault : OwnerFault) → Kept a u → StopsSpreading u.ends u.part u.outboxes e part o fault
    → IsSound value a.ends a.part a.outboxes → Halts value a e part o (Some fault) (notes_taken e) (λ _. [])
halts_spreading value a u e part o fault kept t s =
    subst (λ (x : Ends Notes). Halts value a x part o (Some fault) (notes_taken x) (λ _. [])) (sym t.ends)
    (subst (λ (x : Part). Halts value a u.ends x o (Some fault) (notes_taken u.ends) (λ _. [])) (sym t.cells)
    (subst (λ (x : Outboxes). Halts value a u.ends u.part x (Some fault) (notes_taken u.ends) (λ _. [])) (sym t.outboxes)
    (halts_kept value a u (Some fault) kept (λ had is. subst (λ (f : OwnerFault). (f ≡ Memory) ⊎ ((f ≡ Far) × HasFarthest u.part)) (same fault had is) t.refused) s)))
  where
    same : (x y : OwnerFault) → Some x ≡ Some y → x ≡ y
    same x y is = cc

differ : (x y : ℕ) → (x == y) ≡ false → x ≢ y
differ x y f = grind (arith, nat_tests)

equal : (x : ℕ) → (x == x) ≡ true
equal x = grind (arith, nat_tests)

-- with a fault of a note
module _ (value : List ℕ → ℤ) (a u : Owner) (e : Ends Notes) (part : Part) (o : Outboxes) (fault : OwnerFault) (kept : Kept a u) (t : StopsTaking u.ends u.part u.outboxes e part o fault)
    (s : IsSound value a.ends a.part a.outboxes) where
  abbrev before : List Note
  before = t.refuses.before

  abbrev after : List Note
  after = t.refuses.note ∷ t.refuses.after

  abbrev taken : ℕ → List Note
  taken = with_taken (notes_taken u.ends) t.from before

  abbrev left : ℕ → List Note
  left j = cond (j == t.from) after []

  there : (j : ℕ) → IsOther e j → IsOther u.ends j
  there j other = IsOther-back u.ends e j t.pairs other

  given_same : (j : ℕ) → IsOther u.ends j → given_to e o j ≡ given_to u.ends u.outboxes j
  given_same j other =
      ap (λ (l : List Notes). map items_of l ++ queue_to o j) (t.sent j other) ∙ ap (λ (b : Outboxes). map items_of (sent_to u.ends j) ++ queue_to b j) t.outboxes

  popped : notes_taken e t.from ≡ (notes_taken u.ends t.from ++ before) ++ after
  popped =
      ap (λ (l : List Notes). notes_of (map items_of l)) t.popped ∙ ap notes_of (map-append items_of (received_from u.ends t.from) (t.batch ∷ []))
      ∙ notes_of-last (taken_from u.ends t.from) (items_of t.batch) ∙ ap (λ l. notes_taken u.ends t.from ++ l) t.refuses.items
      ∙ sym (append_assoc (notes_taken u.ends t.from) before after)

  whole : (j : ℕ) → IsOther e j → notes_taken e j ≡ taken j ++ left j
  whole j other = at (j == t.from) refl
    where
      at : (b : Bool) → (j == t.from) ≡ b → notes_taken e j ≡ cond b (notes_taken u.ends j ++ before) (notes_taken u.ends j) ++ cond b after []
      at true is =
          let P : ℕ → Type 0 = λ k. notes_taken e k ≡ (notes_taken u.ends k ++ before) ++ after in
          subst P (sym (eqb-true j t.from is)) popped
      at false is = ap (λ (l : List Notes). notes_of (map items_of l)) (t.others j (there j other) (differ j t.from is)) ∙ sym (append-nil (notes_taken u.ends j))

  came : (j : ℕ) → IsOther e j → (more : List Notes) × (received_from e j ≡ received_from a.ends j ++ more) × ((m : Note) → Has (left j) m → Has (notes_of (map items_of more)) m)
  came j other = at (j == t.from) refl
    where
      first : IsPrefix (received_from a.ends j) (received_from u.ends j)
      first = kept.received j (IsOther-back a.ends u.ends j kept.pairs (there j other))

      at : (b : Bool) → (j == t.from) ≡ b → (more : List Notes) × (received_from e j ≡ received_from a.ends j ++ more) × ((m : Note) → Has (cond b after []) m → Has (notes_of (map items_of more)) m)
      at true is = (
        first.0 ++ t.batch ∷ [],
        (let P : ℕ → Type 0 = λ k. received_from e k ≡ received_from u.ends k ++ t.batch ∷ [] in
            subst P (sym (eqb-true j t.from is)) t.popped) ∙ ap (λ l. l ++ t.batch ∷ []) (sym first.1) ∙ append_assoc (received_from a.ends j) first.0 (t.batch ∷ []),
        λ m has. subst (λ (l : List Note). Has l m) (sym (ap notes_of (map-append items_of first.0 (t.batch ∷ [])) ∙ notes_of-last (map items_of first.0) (items_of t.batch)))
            (Has-append_right (notes_of (map items_of first.0)) (items_of t.batch) m (subst (λ (l : List Note). Has l m) (sym t.refuses.items) (Has-append_right before after m has))),
      )
      at false is = (first.0, t.others j (there j other) (differ j t.from is) ∙ sym first.1, λ m has. absurd has)

  halts_taking : Halts value a e part o (Some fault) taken left
  halts_taking = record {
    sound = moved value u.ends e part taken (notes_given e o) (notes_boxed o) t.pairs
        (sound_same value u.ends.owner (owners_of u.ends) part taken taken (notes_given u.ends u.outboxes) (notes_given e o) (notes_boxed u.outboxes) (notes_boxed o)
        (λ j q. refl) (λ j q. ap notes_of (given_same j q)) (λ j q h. subst (λ (b : Outboxes). All (IsCurrentNote part) (notes_boxed b j)) (sym t.outboxes) h)
        (t.refuses.taken.sound value u.ends.owner (owners_of u.ends) t.from (notes_taken u.ends) (notes_given u.ends u.outboxes) (notes_boxed u.outboxes) t.other (kept.sound value s)));
    whole = whole;
    came = came;
    sent = λ j other. (let gone = kept.sent j (IsOther-back a.ends u.ends j kept.pairs (there j other)) in (gone.0, t.sent j (there j other) ∙ gone.1, gone.2 value s));
    block = place_both a.part u.part part kept.block (stake_settled u.part part t.refuses.taken.settles);
    pairs = pairs_then a.ends u.ends e kept.pairs t.pairs;
    due = λ had is. inr (inr (
      t.from,
      t.refuses.note,
      t.refuses.after,
      from_there,
      ap (λ b. cond b after []) (equal t.from),
      subst (IsFaultOf part t.refuses.note) (same fault had is) t.refuses.refused,
    ));
  }
    where
      same : (x y : OwnerFault) → Some x ≡ Some y → x ≡ y
      same x y is = cc

      from_there : IsOther e t.from
      from_there = ((λ k. t.other.0 (k ∙ t.pairs.owner)), (let p : vec_len e.pairs ≡ vec_len u.ends.pairs = t.pairs.owners in let q : t.from < vec_len u.ends.pairs + 1 = t.other.1 in omega arith))

-- whatever became of it
pub halts : (value : List ℕ → ℤ) (a b : Owner) → HasWorked a b → IsSound value a.ends a.part a.outboxes
    → (x : (ℕ → List Note) × (ℕ → List Note)) × Halts value a b.ends b.part b.outboxes b.fault x.0 x.1
halts value a b worked s = at b.fault refl
  where
    stopped : (fault : OwnerFault) → StopsAt a b.ends b.part b.outboxes fault → (x : (ℕ → List Note) × (ℕ → List Note)) × Halts value a b.ends b.part b.outboxes (Some fault) x.0 x.1
    stopped fault h = elim h.stops [
      | inl t ↦ ((_, _), halts_taking value a h.until b.ends b.part b.outboxes fault h.kept t s)
      | inr t ↦ ((_, _), halts_spreading value a h.until b.ends b.part b.outboxes fault h.kept t s)
    ]

    at : (told : Option OwnerFault) → b.fault ≡ told → (x : (ℕ → List Note) × (ℕ → List Note)) × Halts value a b.ends b.part b.outboxes told x.0 x.1
    at None is = ((_, _), halts_kept value a b None (worked.kept is) (λ fault none. (let e : None ≡ Some fault = none in absurd (cc))) s)
    at (Some fault) is = stopped fault (worked.stopped fault is)
