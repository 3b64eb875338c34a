use Rattle.std.proofs.Common.{sym, ap, ◌∙◌}
use Rattle.std.proofs.lemmas.List.{get_or_default}
use Rattle.awari_phase.specs.PhaseFault.{fault_of}
use Rattle.awari_phase.proofs.rounding.first_fault.Goals as goal

pub returns-in-Some-clause-some : goal.returns-in-Some-clause-some
returns-in-Some-clause-some c = record {
  place = c.loop-owner.owner-index;
  owner = c.owner-item.result;
  of_owner = λ d. get_or_default c.args.owners.now c.loop-owner.owner-index d c.owner-item.result c.loop-owner-test.true ∙ sym c.owner-item.is;
  had = c.in-Some.fault;
  came = c.in-Some.is;
  told = c.fault_of.ensures ∙ ap (λ o. fault_of o c.in-Some.fault) c.owner.ensures;
  before = c.loop-owner.invariant;
}
