-- What a turn makes of a whole level that one thread alone has in segments: it takes boards, and hears their notes itself.
use Rattle.std.proofs.Common.{◌≡◌, ℕ, ◌/◌, ◌<◌, inl, inr, List, length, get_or, sum, ℤ, sym, ap, subst, subst₂, ◌∙◌, arith}
use Rattle.std.proofs.lemmas.List.{get_or_default}
use Rattle.awari_board.specs.Rules.{IsBoard, next_board}
use Rattle.awari_rank.specs.Rank.{rank_of}
use Rattle.awari_block.specs.Each.{EachTo}
use Rattle.awari_block.specs.Notes.{Has, IsNoteOf, IsQuietMove}
use Rattle.awari_block.specs.Part.{Part, InBlock, IsTallied, notes_for}
use Rattle.awari_block.specs.declared.notes.Note.{Note}
use Rattle.awari_block.specs.declared.stakes.Stake.{Stake}
use Rattle.awari_block.proofs.NoteLists.{has_for}
use Rattle.awari_heard.specs.Heard.{Hears, IsSpread, with_heard}
use Rattle.awari_heard.specs.Level.{AreHeard, no_part, part_at}
use Rattle.awari_heard.proofs.Coming.{for_either, for_still}
use Rattle.awari_heard.proofs.SpreadBoards.{IsInjective}
use Rattle.awari_segments.specs.Segments.{AreSegments}
use Rattle.awari_segments.specs.Tellings.{HearsTelling, Telling, Tells, notes_to}
use Rattle.awari_segments.proofs.Steps.{had_new}
use Rattle.awari_segments.proofs.Tells.{taken_still}

module _ (value : List ℕ → ℤ) (level span : ℕ) (t : Telling) (old mid new : List Part) (injective : IsInjective) (levels : (i : ℕ) → i < length mid → (part_at mid i).level ≡ level)
    (aligned : (i rank : ℕ) → i < length mid → InBlock (part_at mid i) rank → rank / span ≡ (part_at mid i).start / span)
    (apart : (i j rank : ℕ) → i < length mid → j < length mid → InBlock (part_at mid i) rank → InBlock (part_at mid j) rank → i ≡ j) (tells : Tells level span t old mid) (each : EachTo (HearsTelling span t) mid new) where
  -- what the part of this number hears in the turn
  abbrev more_of : ℕ → List Note
  more_of k = notes_to ((part_at mid k).start / span) t

  -- its level and block stay
  old_level : (i : ℕ) → i < length old → (part_at mid i).level ≡ (part_at old i).level
  old_level i low = ap (λ (p : Part). p.level) (tells.same.each i no_part low)

  old_block : (i r : ℕ) → i < length old → InBlock (part_at mid i) r → InBlock (part_at old i) r
  old_block i r low inside = subst (λ (p : Part). InBlock p r) (tells.same.each i no_part low) inside

  mid_block : (i r : ℕ) → i < length mid → InBlock (part_at new i) r → InBlock (part_at mid i) r
  mid_block i r low inside =
      let seen = (each.each i no_part low).seen in
      let a = inside.0 in
      let b = inside.1 in
      (omega (arith, a, seen.start), omega (arith, b, seen.start, seen.len))

  -- what the part of number k heard of that of number j, with the notes of this turn
  module _ (k j : ℕ) (here : k < length mid) (there : j < length mid) (notes : List Note) (was : Hears (part_at old j) (part_at old k) notes) where
    was_here : k < length old
    was_here = let many = tells.same.many in omega (arith, here, many)

    was_there : j < length old
    was_there = let many = tells.same.many in omega (arith, there, many)

    mid_stones : (p : List ℕ) → sum p ≡ (part_at new k).level → sum p ≡ (part_at mid k).level
    mid_stones p stones = stones ∙ (each.each k no_part here).seen.level

    turn_truth : (p : List ℕ) (x : ℕ) (q : List ℕ) → IsBoard p → sum p ≡ (part_at new k).level → InBlock (part_at new k) (rank_of p) → InBlock (part_at new j) (rank_of q) → IsQuietMove p x q
        → (m : Note) → Has (notes_for (rank_of p) (with_heard (more_of k) notes)) m → m.pit ≡ x → (v : ℤ) × (d : ℕ) × IsSpread (part_at new j) (rank_of q) v d × IsNoteOf q v d p x m
    turn_truth p x q board stones inside held quiet m has pit =
        let held_mid = mid_block j (rank_of q) there held in
        let seen = (each.each j no_part there).seen in
        elim (for_either (more_of k) notes (rank_of p) m has) [
          | inl before ↦
              (let told = was.true_notes p x q board (mid_stones p stones ∙ old_level k was_here) (old_block k (rank_of p) was_here (mid_block k (rank_of p) here inside)) (old_block j (rank_of q) was_there held_mid) quiet m before pit in
              (told.0, told.1, seen.stays (rank_of q) told.0 told.1 held_mid (taken_still level span t old mid tells j (rank_of q) told.0 told.1 was_there told.2), told.3))
          | inr now ↦
              (let by = tells.true_notes ((part_at mid k).start / span) m now.0 in
              let same_board : by.p ≡ p = injective by.p p by.board board (by.stones ∙ sym (levels k here) ∙ sym (mid_stones p stones)) (sym by.note.target ∙ now.1) in
              let same_pit : by.x ≡ x = sym by.note.pit ∙ pit in
              let same : by.q ≡ q = by.note.quiet.leaves ∙ ap (next_board by.p) same_pit ∙ ap (λ b. next_board b x) same_board ∙ sym quiet.leaves in
              let source : by.at ≡ j = apart by.at j (rank_of q) by.inside there (subst (λ b. InBlock (part_at mid by.at) (rank_of b)) same by.held) held_mid in (
                by.v,
                by.d,
                seen.stays (rank_of q) by.v by.d held_mid (subst₂ (λ i b. IsSpread (part_at mid i) (rank_of b) by.v by.d) source same by.spread),
                subst (λ b. IsNoteOf b by.v by.d p x m) same (subst₂ (λ b y. IsNoteOf by.q by.v by.d b y m) same_board same_pit by.note),
              ))
        ]

    turn_all : (p : List ℕ) (x : ℕ) (q : List ℕ) (v : ℤ) (d : ℕ) → IsBoard p → sum p ≡ (part_at new k).level → InBlock (part_at new k) (rank_of p) → InBlock (part_at new j) (rank_of q) → IsQuietMove p x q
        → IsSpread (part_at new j) (rank_of q) v d → (m : Note) × Has (notes_for (rank_of p) (with_heard (more_of k) notes)) m × IsNoteOf q v d p x m
    turn_all p x q v d board stones inside held quiet spread =
        let inside_mid = mid_block k (rank_of p) here inside in
        let held_mid = mid_block j (rank_of q) there held in
        let spread_mid = (each.each j no_part there).seen.before (rank_of q) v d held_mid spread in
        elim (tells.all_notes j p q x v d there board (mid_stones p stones ∙ levels k here) held_mid quiet spread_mid) [
          | inl before ↦
              (let told = was.all_notes p x q v d board (mid_stones p stones ∙ old_level k was_here) (old_block k (rank_of p) was_here inside_mid) (old_block j (rank_of q) was_there held_mid) quiet before in
              (told.0, for_still (more_of k) notes (rank_of p) told.0 told.1, told.2))
          | inr now ↦ (
            now.0,
            has_for (rank_of p) (with_heard (more_of k) notes) now.0
                (had_new (more_of k) notes now.0 (subst (λ n. Has (notes_to n t) now.0) (aligned k (rank_of p) here inside_mid) now.1)) now.2.target,
            now.2,
          )
        ]

    turn_hears : Hears (part_at new j) (part_at new k) (with_heard (more_of k) notes)
    turn_hears = record { true_notes = turn_truth; all_notes = turn_all }

  -- no cell changes where boards are taken
  mid_tallied : (k : ℕ) (notes : List Note) → k < length old → IsTallied value (part_at old k) notes → IsTallied value (part_at mid k) notes
  mid_tallied k notes low tallied = subst (λ (p : Part). IsTallied value p notes) (sym (tells.same.each k no_part low)) tallied

  -- Once all segments heard what was told, what they heard is again what spread boards say.
  pub heard_turn : AreHeard value old → AreHeard value new
  heard_turn was k d low =
      let many = tells.same.many in
      let many' = each.many in
      let here : k < length mid = omega (arith, low, many') in
      let before = was k no_part (omega (arith, here, many)) in
      subst (λ (part : Part). (notes : List Note) × IsTallied value part notes × ((j : ℕ) (e : Part) → j < length new → Hears (get_or new j e) part notes)) (sym (get_or_default new k d no_part low)) (
        with_heard (more_of k) before.0,
        (each.each k no_part here).tells value before.0 (mid_tallied k before.0 (omega (arith, here, many)) before.1),
        λ j e few.
            let there : j < length mid = omega (arith, few, many') in
            subst (λ (source : Part). Hears source (part_at new k) (with_heard (more_of k) before.0)) (sym (get_or_default new j e no_part few))
            (turn_hears k j here there before.0 (before.2 j no_part (omega (arith, there, many)))),
      )

-- so it is of a level in segments of one stake
pub segments_turn : (value : List ℕ → ℤ) (stake : Stake) (span : ℕ) (t : Telling) (old mid new : List Part) → IsInjective → AreSegments stake span mid → Tells stake.level span t old mid → EachTo (HearsTelling span t) mid new
    → AreHeard value old → AreHeard value new
segments_turn value stake span t old mid new injective grid tells each =
    heard_turn value stake.level span t old mid new injective grid.level
    (λ i rank low inside. grid.only i rank low inside ∙ sym (grid.only i (part_at mid i).start low (let a = inside.0 in let b = inside.1 in (omega arith, omega (arith, a, b)))))
    (λ i j rank low few inside held. sym (grid.only i rank low inside) ∙ grid.only j rank few held) tells each
