use Rattle.std.proofs.Common.{ℕ}
use Rattle.std.specs.List.{All}
use Rattle.awari_table.specs.Certificate.{Table}
use Rattle.awari_verify.specs.Pieces.{IsShare}
use Rattle.awari_verify.proofs.shares.joined.Given as goal

abbrev pub invariant-loop-other : goal.invariant-loop-other
invariant-loop-other l = (t : Table) (level : ℕ) → IsShare t level l.fn.own → All (IsShare t level) l.others → IsShare t level l.all
