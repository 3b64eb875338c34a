use Rattle.std.proofs.Common.{◌≡◌, ℕ, ◌+◌, ◌≤◌, length}
use Rattle.awari_table.specs.Images.{table_of}
use Rattle.awari_phase.specs.Owners.{AreAt}
use Rattle.awari_build.proofs.owned.settled_parts.Given as goal

abbrev pub invariant-loop-gain : goal.invariant-loop-gain
invariant-loop-gain g l =
    (opened : ℕ) × (1 ≤ opened) × (opened + l._gain ≡ length l.fn.shelf + 1) × AreAt (table_of l.fn.shelf).value (length l.fn.shelf) opened l.owners.items
