use Rattle.awari_verify.specs.Shares.{IsShareOf}
use Rattle.awari_verify.proofs.shares.take_pieces.Given as goal

abbrev pub invariant-loop-taken : goal.invariant-loop-taken
invariant-loop-taken l = IsShareOf l.shelf l.image l.share
