-- What the opening of a gain makes of a part.
use Rattle.std.proofs.Common.{◌≡◌, ℕ, ◌+◌, ◌-◌, ◌<◌, ◌≤◌, List, length, get_or, ℤ, refl, sym, ap, subst, ◌∙◌, arith}
use Rattle.awari_rank.specs.Rank.{rank_of}
use Rattle.awari_block.specs.Tally.{IsTally}
use Rattle.awari_block.specs.Steps.{cell_after_opening}
use Rattle.awari_block.specs.Cells.{view_of}
use Rattle.awari_block.specs.Blocks.{Due, no_cell}
use Rattle.awari_block.specs.Part.{Part, IsTallied, cell_at, notes_for}
use Rattle.awari_block.specs.declared.cells.Cell.{Cell}
use Rattle.awari_block.specs.declared.notes.Note.{Note}
use Rattle.awari_heard.proofs.PlannedTallies.{opening_tally}
use Rattle.awari_heard.proofs.Taking.{moved_tally}

pub opened : (value : List ℕ → ℤ) (notes : List Note) (old : Part) (cells : List Cell) (fresh : List Due) (gain : ℕ) → 1 ≤ gain → gain + 1 ≡ old.gain
    → length cells ≡ length old.cells
    → ((k : ℕ) → k < length old.cells → view_of (get_or cells k no_cell) ≡ cell_after_opening (view_of (get_or old.cells k no_cell)) old.level gain)
    → IsTallied value old notes
    → IsTallied value (record { level = old.level; gain = gain; wave = 0; start = old.start; cells = cells; fresh = fresh }) notes
opened value notes old cells fresh gain one next same opens tallied p is stones inside =
    let there : rank_of p - old.start < length old.cells = let i = inside.1 in omega (arith, same) in
    let told = tallied p is stones (inside.0, there) in
    moved_tally value _ _ p (notes_for (rank_of p) notes) gain 0 gain 0 refl refl
    (opens (rank_of p - old.start) there ∙ ap (λ n. cell_after_opening (view_of (get_or old.cells (rank_of p - old.start) no_cell)) n gain) (sym stones))
    (opening_tally value (cell_at old (rank_of p)) p (notes_for (rank_of p) notes) gain old.wave one
    (subst (λ t. IsTally value (cell_at old (rank_of p)) p (notes_for (rank_of p) notes) t old.wave) (sym next) told))
