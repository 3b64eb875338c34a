use Rattle.awari_table.specs.Certificate.{DistancesAreLeast}
use Rattle.awari_verify.proofs.FaultLemmas.{inconsistent_from_fault, one_due}
use Rattle.awari_verify.proofs.laws.one_fault_is_due.Goals as goal

pub returns-clause-one : goal.returns-clause-one
returns-clause-one c = one_due DistancesAreLeast

pub returns-clause-none : goal.returns-clause-none
returns-clause-none c = inconsistent_from_fault DistancesAreLeast
