use Rattle.awari_phase.proofs.Gaining.{all_grown_looked}
use Rattle.awari_phase.proofs.Worked.{together_looked}
use Rattle.awari_phase.proofs.phases.is_wave_done.Goals as goal

pub returns-then-quiet-clause-grown : goal.returns-then-quiet-clause-grown
returns-then-quiet-clause-grown c =
    all_grown_looked c.args.owners.now c.settle_owners-quiet.new.all c.settle_owners-quiet.auto.all c.settle_owners-quiet.ensures.grid c.settle_owners-quiet.ensures.rest c.settle_owners-quiet.ensures.same

pub returns-else-quiet-clause-grown : goal.returns-else-quiet-clause-grown
returns-else-quiet-clause-grown c =
    all_grown_looked c.args.owners.now c.settle_owners-quiet.new.all c.settle_owners-quiet.auto.all c.settle_owners-quiet.ensures.grid c.settle_owners-quiet.ensures.rest c.settle_owners-quiet.ensures.same

pub returns-then-quiet-clause-together : goal.returns-then-quiet-clause-together
returns-then-quiet-clause-together c = λ value n.
    together_looked value n c.args.owners.now c.settle_owners-quiet.new.all (returns-then-quiet-clause-grown c) c.settle_owners-quiet.ensures.rest c.settle_owners-quiet.ensures.same

pub returns-else-quiet-clause-together : goal.returns-else-quiet-clause-together
returns-else-quiet-clause-together c = λ value n.
    together_looked value n c.args.owners.now c.settle_owners-quiet.new.all (returns-else-quiet-clause-grown c) c.settle_owners-quiet.ensures.rest c.settle_owners-quiet.ensures.same
