-- What the spread of a board keeps of its owner.
use Rattle.std.proofs.Common.{◌≡◌, ℕ, ◌+◌, ◌<◌, ◌≤◌, ◌&&◌, inl, inr, Bool, true, nat_le, nat_lt, List, ◌++◌, length, get_or, filter, sum, ℤ, All, sym, ap, subst, subst₂, ◌∙◌, arith, append_assoc, map}
use Rattle.std.proofs.lemmas.Bool.Decides.{nat_tests}
use Rattle.std.proofs.lemmas.List.Elements.{All-append}
use Rattle.awari_board.specs.Rules.{IsBoard, next_board}
use Rattle.awari_rank.specs.Rank.{rank_of, size_of}
use Rattle.awari_block.specs.Notes.{IsQuietMove, Has, IsNoteOf, kind_of}
use Rattle.awari_block.specs.Part.{Part, AreFresh, InBlock, Leaves, stored_at}
use Rattle.awari_block.specs.Shares.{first_rank}
use Rattle.awari_block.specs.declared.notes.Note.{Note}
use Rattle.awari_owner.specs.Outboxes.{Outboxes, notes_of, queue_to}
use Rattle.awari_owner.specs.Sound.{HoldsNotes, IsInBlockOf, IsOtherOf, IsCurrentNote, OwnerSound, SameStake}
use Rattle.awari_scan.specs.Found.{Source}
use Rattle.awari_heard.specs.Heard.{IsSpread, with_heard}
use Rattle.awari_owner.specs.Spread.{Sends, Spreads, is_in_block, note_to, own_notes, is_held}
use Rattle.awari_block.proofs.NoteLists.{Has-append_left, Has-append_right, Has-append_cases, all_has}
use Rattle.awari_owner.proofs.Lists.{notes_of-with_notes}
use Rattle.awari_heard.proofs.Coming.{once_more, had_either, had_still}
use Rattle.awari_owner.proofs.Sounding.{timely_all}
use Rattle.awari_heard.proofs.SpreadBoards.{IsInjective}
use Rattle.awari_owner.proofs.Spreading.{AreSources, sources_of}
use Rattle.awari_owner.proofs.SpreadNotes.{source_of, note_of, notes_once, Has-filter, Has-chosen, filter_once, gain_is, gives_by}

-- ---- the block of another owner, by the test

from_test : (a b r : ℕ) → (nat_le a r && nat_lt r b) ≡ true → (a ≤ r) × (r < b)
from_test a b r e = (low a b r e, high a b r e)
  where
    low : (a b r : ℕ) → (nat_le a r && nat_lt r b) ≡ true → a ≤ r
    low a b r e = grind (arith, nat_tests)

    high : (a b r : ℕ) → (nat_le a r && nat_lt r b) ≡ true → r < b
    high a b r e = grind (arith, nat_tests)

to_test : (a b r : ℕ) → a ≤ r → r < b → (nat_le a r && nat_lt r b) ≡ true
to_test a b r low high = grind (arith, nat_tests)

-- ---- the step

module _ (injective : IsInjective) (moves : (p : List ℕ) (x : ℕ) (r : List ℕ) → IsBoard p → IsQuietMove p x r → IsBoard r × (sum r ≡ sum p))
    (value : List ℕ → ℤ) (part part' : Part) (o o' : Outboxes) (taken sent coming : ℕ → List Note) (q : List ℕ) (sources : List Source) (notes : List Note)
    (spreads : Spreads part part' q sources) (sends : Sends part q sources notes o o') (stake : SameStake part part') (fresh : AreFresh part')
    (s : OwnerSound value o.owner (length o.queues) part taken (λ j. sent j ++ notes_of (queue_to o j)) (λ j. coming j ++ notes_of (queue_to o j))) where
  abbrev score : ℤ
  score = (stored_at part (rank_of q)).score

  abbrev for_other : ℕ → Note → Bool
  for_other j m = is_in_block (size_of part.level) (length o.queues) j m.target

  abbrev more : ℕ → List Note
  more j = filter (for_other j) notes

  are : AreSources q sources
  are = sources_of q sources (λ p x is quiet. let kept = moves p x q is quiet in omega (arith, kept.1)) spreads.predecessors

  in_new : (r : ℕ) → InBlock part r → InBlock part' r
  in_new r h = let a = h.0 in let b = h.1 in (omega (arith, a, stake.level.start), omega (arith, b, stake.level.start, stake.long))

  in_old : (r : ℕ) → InBlock part' r → InBlock part r
  in_old r h = let a = h.0 in let b = h.1 in (omega (arith, a, stake.level.start), omega (arith, b, stake.level.start, stake.long))

  unspread : (u : ℤ) (e : ℕ) → IsSpread part (rank_of q) u e → ⊥
  unspread u e spread = let none = spread.1 in let some = spreads.first.fresh in omega (arith, none, some)

  leaves_old : (target pit : ℕ) → Leaves part' target pit → Leaves part target pit
  leaves_old target pit leaves p is stones at =
      let there = leaves p is (stones ∙ sym stake.level.level) at in
      (there.0, there.1, λ inside. there.2 (in_new (rank_of there.0) inside))

  -- a note of the block is of no move that leaves it
  stayed : (m : Note) → Leaves part m.target m.pit → Has (own_notes part (kind_of score) sources) m → ⊥
  stayed m leaves has =
      let mine = map (note_to part (kind_of score)) sources in
      let gives = gives_by part q score (kind_of score) sources spreads.gives are.each spreads.stones in
      let (j, low, fits) = source_of q score part.wave sources mine gives m (Has-filter (λ (k : Note). is_held part k.target) mine m has).0 in
      let y : Source = get_or sources j (q, 0) in
      let note = fits (q, 0) in
      let each = are.each j (q, 0) low in
      let there = leaves y.0 each.0 (each.1 ∙ spreads.stones) (sym note.target) in
      let same : there.0 ≡ q = there.1.leaves ∙ ap (next_board y.0) note.pit ∙ sym each.2.leaves in
      there.2 (subst (λ (b : List ℕ). InBlock part (rank_of b)) (sym same) spreads.first.inside)

  -- one list behind another grows by the notes of the board
  grown : (list : List Note) (j : ℕ) → IsOtherOf o.owner (length o.queues) j → list ++ notes_of (queue_to o' j) ≡ (list ++ notes_of (queue_to o j)) ++ more j
  grown list j other =
      ap (λ l. list ++ l) (ap notes_of (sends.sent j other.1 other.0) ∙ notes_of-with_notes (queue_to o j) (more j)) ∙ sym (append_assoc list (notes_of (queue_to o j)) (more j))

  given' : (j : ℕ) → IsOtherOf o.owner (length o.queues) j → HoldsNotes (length o.queues) part' j (sent j ++ notes_of (queue_to o' j))
  given' j other = subst (HoldsNotes (length o.queues) part' j) (sym (grown (sent j) j other)) (record {
    true_notes = λ m has. elim (Has-append_cases (sent j ++ notes_of (queue_to o j)) (more j) m has) [
      | inl before ↦ (
          let (p, r, x, u, e, is_p, stones, in_r, in_j, spread, note) = old.true_notes m before in
          (p, r, x, u, e, is_p, stones ∙ sym stake.level.level, in_new (rank_of r) in_r, subst (λ n. IsInBlockOf n (length o.queues) j (rank_of p)) (sym stake.level.level) in_j, spreads.becomes.forth (rank_of r) u e in_r spread, note))
      | inr later ↦ (
          let chosen = Has-filter (for_other j) notes m later in
          let (k, at, is) = source_of q score part.wave sources notes sends.gives m chosen.0 in
          let y : Source = get_or sources k (q, 0) in
          let each = are.each k (q, 0) at in
          let note = is (q, 0) in
          let tested : is_in_block (size_of part.level) (length o.queues) j (rank_of y.0) ≡ true = subst (λ r. is_in_block (size_of part.level) (length o.queues) j r ≡ true) note.target chosen.1 in
          let held : IsInBlockOf part.level (length o.queues) j (rank_of y.0) = from_test (first_rank (size_of part.level) (length o.queues) j) (first_rank (size_of part.level) (length o.queues) (j + 1)) (rank_of y.0) tested in (
            y.0,
            q,
            y.1,
            score,
            part.wave,
            each.0,
            each.1 ∙ spreads.stones ∙ sym stake.level.level,
            in_new (rank_of q) spreads.first.inside,
            subst (λ n. IsInBlockOf n (length o.queues) j (rank_of y.0)) (sym stake.level.level) held,
            spreads.becomes.now,
            note,
          ))
    ];
    all_notes = λ p r x u e is stones in_r in_j quiet spread. elim (spreads.becomes.back (rank_of r) u e (in_old (rank_of r) in_r) spread) [
      | inl before ↦ (
          let (m, has, note) = old.all_notes p r x u e is (stones ∙ stake.level.level) (in_old (rank_of r) in_r) (subst (λ n. IsInBlockOf n (length o.queues) j (rank_of p)) stake.level.level in_j) quiet before in
          (m, Has-append_left (sent j ++ notes_of (queue_to o j)) (more j) m has, note))
      | inr here ↦ (
          let there = moves p x r is quiet in
          let same : r ≡ q = injective r q there.0 spreads.board (there.1 ∙ stones ∙ stake.level.level ∙ sym spreads.stones) here.0 in
          let to_q : IsQuietMove p x q = subst (IsQuietMove p x) same quiet in
          let found = are.every p x is to_q in
          let (m, has, note) = note_of q score part.wave sources notes sends.gives found.0 (p, x) found.1 in
          let at_p : IsNoteOf q score part.wave p x m = subst (λ (z : Source). IsNoteOf q score part.wave z.0 z.1 m) found.2 note in
          let held : IsInBlockOf part.level (length o.queues) j (rank_of p) = subst (λ n. IsInBlockOf n (length o.queues) j (rank_of p)) stake.level.level in_j in
          let tested : is_in_block (size_of part.level) (length o.queues) j (rank_of p) ≡ true =
          to_test (first_rank (size_of part.level) (length o.queues) j) (first_rank (size_of part.level) (length o.queues) (j + 1)) (rank_of p) held.0 held.1 in
          let chosen : for_other j m ≡ true = subst (λ t. is_in_block (size_of part.level) (length o.queues) j t ≡ true) (sym at_p.target) tested in (
            m,
            Has-append_right (sent j ++ notes_of (queue_to o j)) (more j) m (Has-chosen (for_other j) notes m has chosen),
            subst₂ (λ (w : ℤ) (f : ℕ). IsNoteOf r w f p x m) (sym here.1) (sym here.2) (subst (λ (c : List ℕ). IsNoteOf c score part.wave p x m) (sym same) at_p),
          ))
    ];
    once = once_more (sent j ++ notes_of (queue_to o j)) (more j) old.once (filter_once (for_other j) notes (notes_once injective q score part.wave sources notes sends.gives are.each spreads.predecessors.ordered))
        (λ k m has later target pit.
        let (p, r, x, u, e, is_p, stones, in_r, in_j, spread, note) = old.true_notes k has in
        let (i, at, is) = source_of q score part.wave sources notes sends.gives m (Has-filter (for_other j) notes m later).0 in
        let y : Source = get_or sources i (q, 0) in
        let each = are.each i (q, 0) at in
        let new_note = is (q, 0) in
        let boards : p ≡ y.0 = injective p y.0 is_p each.0 (stones ∙ sym (each.1 ∙ spreads.stones)) (sym note.target ∙ sym target ∙ new_note.target) in
        let pits : x ≡ y.1 = sym note.pit ∙ sym pit ∙ new_note.pit in
        let leads : r ≡ q = note.quiet.leaves ∙ ap (λ c. next_board c x) boards ∙ ap (next_board y.0) pits ∙ sym each.2.leaves in
        unspread u e (subst (λ (c : List ℕ). IsSpread part (rank_of c) u e) leads spread));
  })
    where
      old : HoldsNotes (length o.queues) part j (sent j ++ notes_of (queue_to o j))
      old = s.given_notes j other

  -- what is put to the outboxes is of the open gain and wave
  opened' : (j : ℕ) → IsOtherOf o.owner (length o.queues) j → All (IsCurrentNote part') (coming j ++ notes_of (queue_to o' j))
  opened' j other = timely_all part part' stake.level.level stake.level.gain stake.level.wave (coming j ++ notes_of (queue_to o' j))
      (subst (All (IsCurrentNote part)) (sym (grown (coming j) j other)) (All-append (IsCurrentNote part) (coming j ++ notes_of (queue_to o j)) (more j) (s.opened j other) (all_has (IsCurrentNote part) (more j) each)))
    where
      each : (k : Note) → Has (more j) k → IsCurrentNote part k
      each k has =
          let (i, at, is) = source_of q score part.wave sources notes sends.gives k (Has-filter (for_other j) notes k has).0 in
          let note = is (q, 0) in
          let near = spreads.near in
          let d = note.same_dist in
          record { gain = gain_is part.gain k.gain score k.kind spreads.valued note.kind note.gain; opened = spreads.opened; dist = d; near = omega (arith, near, d) }

  pub sound_spread : OwnerSound value o.owner (length o.queues) part' taken (λ j. sent j ++ notes_of (queue_to o' j)) (λ j. coming j ++ notes_of (queue_to o' j))
  sound_spread = record {
    heard = with_heard (own_notes part (kind_of score) sources) s.heard;
    tallied = spreads.told value s.heard s.hears_own s.tallied;
    hears_own = spreads.hears s.heard s.hears_own;
    taken_heard = λ j other m has. had_still (own_notes part (kind_of score) sources) s.heard m (s.taken_heard j other m has);
    heard_taken = λ m has leaves. elim (had_either (own_notes part (kind_of score) sources) s.heard m has) [
      | inl before ↦ s.heard_taken m before (leaves_old m.target m.pit leaves)
      | inr new ↦ absurd (stayed m (leaves_old m.target m.pit leaves) new)
    ];
    given_notes = given';
    opened = opened';
    fresh = fresh;
  }
