-- What a note makes of a part.
use Rattle.std.proofs.Common.{◌≡◌, ◌≢◌, ℕ, ◌-◌, ◌≤◌, ◌<◌, ◌==◌, Bool, true, false, not, cond, List, ◌∷◌, length, set, sum, ℤ, refl, sym, ap, subst, subst₂, ◌∙◌, arith, eqb-true, length-set}
use Rattle.std.proofs.lemmas.Bool.Decides.{nat_tests}
use Rattle.awari_board.specs.Rules.{IsBoard}
use Rattle.awari_rank.specs.Rank.{rank_of}
use Rattle.awari_block.specs.Notes.{IsQuietMove, is_heard_at}
use Rattle.awari_block.specs.Tally.{IsTally, has_pit}
use Rattle.awari_block.specs.Tally as tally
use Rattle.awari_block.specs.Steps.{cell_after_note}
use Rattle.awari_block.specs.Cells.{view_of}
use Rattle.awari_block.specs.Blocks.{cell_in}
use Rattle.awari_block.specs.Boards.{HearsNote}
use Rattle.awari_block.specs.Part.{Part, InBlock, IsExpected, IsTallied, SameLevel, cell_at, stored_at, notes_for}
use Rattle.awari_block.specs.declared.notes.Note.{Note}
use Rattle.awari_block.specs.declared.cells.Cell.{Cell}
use Rattle.awari_heard.proofs.Statuses.{IsNew}
use Rattle.awari_heard.proofs.PlannedTallies.{note_tally, unheard_told}
use Rattle.awari_block.proofs.BlockLemmas.{cell_in-other}

-- a note for a board of the block, of one of its quiet moves, of the open gain and wave
pub record IsTakeable (part : Part) (note : Note) : Type 0 where
  pub gain : note.gain ≡ part.gain
  pub dist : note.dist ≡ part.wave
  pub held : InBlock part note.target
  pub own : note.pit < 6
  pub quiet : (p : List ℕ) → IsBoard p → sum p ≡ part.level → rank_of p ≡ note.target → (q : List ℕ) × IsQuietMove p note.pit q

-- a cell that was changed by a note, in a part at the same gain and distance
pub moved_tally : (value : List ℕ → ℤ) (old new : tally.Cell) (p : List ℕ) (notes : List Note) (t w t' w' : ℕ) → t' ≡ t → w' ≡ w → new ≡ old
    → IsTally value old p notes t w → IsTally value new p notes t' w'
moved_tally value old new p notes t w t' w' gain wave same told =
    subst₂ (λ (a b : ℕ). IsTally value new p notes a b) (sym gain) (sym wave) (subst (λ (c : tally.Cell). IsTally value c p notes t w) (sym same) told)

pub added : (value : List ℕ → ℤ) (notes : List Note) (old new : Part) (note : Note) → 1 ≤ old.gain → IsTakeable old note → has_pit (stored_at old note.target).left note.pit ≡ true
    → SameLevel old new → new.cells ≡ set old.cells (note.target - old.start) (stored_at new note.target)
    → view_of (stored_at new note.target) ≡ cell_after_note (view_of (stored_at old note.target)) note.kind note.pit old.gain note.dist
    → IsTallied value old notes → IsTallied value new (note ∷ notes)
added value notes old new note one due silent same_level put told tallied p is stones inside = by (note.target == rank_of p) refl
  where
    same_length : length new.cells ≡ length old.cells
    same_length = ap length put ∙ length-set old.cells (note.target - old.start) (stored_at new note.target)

    inside_old : InBlock old (rank_of p)
    inside_old = let a = inside.0 in let b = inside.1 in (omega (arith, same_level.start), omega (arith, same_level.start, same_length))

    before : IsTally value (cell_at old (rank_of p)) p (notes_for (rank_of p) notes) old.gain old.wave
    before = tallied p is (stones ∙ same_level.level) inside_old

    flip : (b : Bool) → not b ≡ true → b ≡ false
    flip b e = grind arith

    differ : (x y : ℕ) → (x == y) ≡ false → y ≢ x
    differ x y e = grind (arith, nat_tests)

    stored_other : rank_of p ≢ note.target → stored_at new (rank_of p) ≡ stored_at old (rank_of p)
    stored_other ne =
        subst₂ (λ s (cs : List Cell). cell_in s cs (rank_of p) ≡ cell_in old.start old.cells (rank_of p)) (sym same_level.start) (sym put)
        (cell_in-other old.start old.cells note.target (rank_of p) (stored_at new note.target) due.held.0 inside_old.0 ne)

    here : note.target ≡ rank_of p → IsTally value (cell_at new (rank_of p)) p (note ∷ notes_for (rank_of p) notes) new.gain new.wave
    here at =
        let leaves = due.quiet p is (stones ∙ same_level.level) (sym at) in
        let unheard : is_heard_at (notes_for (rank_of p) notes) note.pit ≡ false =
        flip (is_heard_at (notes_for (rank_of p) notes) note.pit) (sym (unheard_told value (cell_at old (rank_of p)) p (notes_for (rank_of p) notes) old.gain old.wave before note.pit leaves.0 leaves.1) ∙ subst (λ r. has_pit (stored_at old r).left note.pit ≡ true) at silent) in
        let fresh : IsNew p (notes_for (rank_of p) notes) old.gain old.wave note = record { quiet = (leaves.0, leaves.1); unheard = unheard; gained = due.gain; waved = due.dist } in
        moved_tally value _ (cell_at new (rank_of p)) p (note ∷ notes_for (rank_of p) notes) old.gain old.wave new.gain new.wave same_level.gain same_level.wave
        (subst (λ r. view_of (stored_at new r) ≡ cell_after_note (view_of (stored_at old r)) note.kind note.pit old.gain note.dist) at told)
        (note_tally value (cell_at old (rank_of p)) p (notes_for (rank_of p) notes) old.gain old.wave note one fresh before)

    by : (b : Bool) → (note.target == rank_of p) ≡ b → IsTally value (cell_at new (rank_of p)) p (cond (note.target == rank_of p) (note ∷ notes_for (rank_of p) notes) (notes_for (rank_of p) notes)) new.gain new.wave
    by true e =
        subst (λ b. IsTally value (cell_at new (rank_of p)) p (cond b (note ∷ notes_for (rank_of p) notes) (notes_for (rank_of p) notes)) new.gain new.wave) (sym e)
        (here (eqb-true note.target (rank_of p) e))
    by false e =
        let same = stored_other (differ note.target (rank_of p) e) in
        subst (λ b. IsTally value (cell_at new (rank_of p)) p (cond b (note ∷ notes_for (rank_of p) notes) (notes_for (rank_of p) notes)) new.gain new.wave) (sym e)
        (moved_tally value (cell_at old (rank_of p)) (cell_at new (rank_of p)) p (notes_for (rank_of p) notes) old.gain old.wave new.gain new.wave same_level.gain same_level.wave
        (ap view_of same) before)

-- the same of a note that is heard
pub added_heard : (value : List ℕ → ℤ) (notes : List Note) (old new : Part) (note : Note) → 1 ≤ old.gain → IsTakeable old note → has_pit (stored_at old note.target).left note.pit ≡ true
    → SameLevel old new → HearsNote old new note.target note.pit note.kind → IsTallied value old notes → IsTallied value new (note ∷ notes)
added_heard value notes old new note one due silent same hears tallied =
    added value notes old new note one due silent same hears.cells
    (hears.cell ∙ ap (cell_after_note (view_of (stored_at old note.target)) note.kind note.pit old.gain) (sym due.dist)) tallied

pub expected_takeable : (part : Part) (note : Note) → IsExpected part note → IsTakeable part note
expected_takeable part note e = record {
  gain = e.gain;
  dist = e.dist;
  held = e.held;
  own = e.own;
  quiet = λ p is stones at. let there = e.leaves p is stones at in (there.0, there.1);
}
