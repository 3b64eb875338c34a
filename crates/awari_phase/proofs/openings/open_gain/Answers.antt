use Rattle.std.proofs.Common.{get_or, subst}
use Rattle.awari_phase.specs.Owners.{OpensNext}
use Rattle.awari_phase.specs.declared.owners.Owner.{Owner}
use Rattle.awari_phase.proofs.Opening.{finished_next}
use Rattle.awari_phase.proofs.openings.open_gain.Goals as goal

pub returns-clause-each : goal.returns-clause-each
returns-clause-each g c = record {
  many = c.par_for_each_mut.auto.s;
  each = λ i d h.
      let change = (c.par_for_each_mut.ensures i d h).1 in
      subst (λ (u : Owner). OpensNext u (get_or c.par_for_each_mut.new.s i d)) change.argument_is (subst (λ (u : Owner). OpensNext change.argument.now u) change.left change.call);
}

pub returns-clause-finished : goal.returns-clause-finished
returns-clause-finished g c = λ value n finished. finished_next value n c.args.owners.now c.par_for_each_mut.new.s (returns-clause-each g c) finished
