use Rattle.std.proofs.Common.{ℕ, ◌<◌, slice_index_or}
use Rattle.awari_block.specs.Part.{Part, IsClosed}
use Rattle.awari_owner_tests.proofs.apart.expect_closed.Given as goal

abbrev pub invariant-loop-part : goal.invariant-loop-part
invariant-loop-part g l = (i : ℕ) (d : Part) → i < l.part-index → IsClosed (slice_index_or l.parts i d)
