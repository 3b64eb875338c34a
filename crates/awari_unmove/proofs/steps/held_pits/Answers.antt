use Rattle.std.proofs.Common.{◌+◌}
use Rattle.awari_unmove.specs.Steps.{holds}
use Rattle.awari_unmove.proofs.Ends.{six_bits}
use Rattle.awari_unmove.proofs.steps.held_pits.Goals as goal

pub returns-clause-bits : goal.returns-clause-bits
returns-clause-bits c = six_bits _ _ _ _ _ _ (λ i. holds c.args.board.now (6 + i))
    (c.held.ensures.few, c.held-2.ensures.few, c.held-3.ensures.few, c.held-4.ensures.few, c.held-5.ensures.few, c.held-6.ensures.few)
    (c.held.ensures.held, c.held-2.ensures.held, c.held-3.ensures.held, c.held-4.ensures.held, c.held-5.ensures.held, c.held-6.ensures.held)
