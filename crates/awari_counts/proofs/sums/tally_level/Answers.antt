use Rattle.std.proofs.Common.{inl, inr, arith}
use Rattle.awari_play.proofs.Lasting.{err_same}
use Rattle.awari_counts.proofs.TallyLaws.{none_as_far, tallied-up}
use Rattle.awari_counts.proofs.sums.tally_level.Goals as goal

pub returns-clause-tallied : goal.returns-clause-tallied
returns-clause-tallied g c = λ images says.
    tallied-up images c.args.table c.in_ok-counts.counts.items c.as_slice.result.now c.in_ok-tally.tally c.index.result.now c.requires.table c.requires.low (c.in_ok-counts.ensures.counted images says)
    (c.in_ok-counts.ensures.sized images says) c.as_slice.ensures.value c.in_ok-tally.ensures.sums c.index.ensures (omega (arith, c.if-index-eq0.false))

pub returns-in_err-counts-clause-fault : goal.returns-in_err-counts-clause-fault
returns-in_err-counts-clause-fault g c = err_same c.from_residual.result _ _ c.from_residual.ensures.1 (inl c.in_err-counts.ensures.fault)

pub returns-then-index-eq0-clause-fault : goal.returns-then-index-eq0-clause-fault
returns-then-index-eq0-clause-fault g c = inr (
  c.wrong_limit.ensures,
  λ images says.
      none_as_far images c.args.table c.in_ok-counts.counts.items c.as_slice.result.now c.in_ok-tally.tally c.index.result.now c.requires.table c.requires.low (c.in_ok-counts.ensures.counted images says)
      (c.in_ok-counts.ensures.sized images says) c.as_slice.ensures.value c.in_ok-tally.ensures.sums c.index.ensures c.if-index-eq0.true,
)
