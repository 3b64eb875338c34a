use Rattle.std.proofs.Common.{◌≡◌, ℕ, ◌<◌, length, get_or}
use Rattle.std.specs.Io.KnownBytes.{Appends}
use Rattle.awari_counts.specs.RowHeads.{heads}
use Rattle.awari_counts.specs.Rows.{row_lines}
use Rattle.awari_counts.proofs.rows.print_row.Given as goal

abbrev pub invariant-loop-place : goal.invariant-loop-place
invariant-loop-place g l = (boards : ℕ → ℕ) → ((k : ℕ) → k < length l.counts → get_or l.counts k 0 ≡ boards k)
    → Appends (g.W.Write.contents l.fn.writer) (g.W.Write.contents l.writer) (row_lines l.form (heads l.form l.row) l.row.column boards l.place)
