use Rattle.awari_verify.proofs.shares.joined.Goals as goal

pub loop-other-preserved : goal.loop-other-preserved
loop-other-preserved c = λ t level own others. c.join.ensures.share t level (c.loop-other.invariant t level own others) (others c.loop-other.other-index _ c.loop-other-test.true)
