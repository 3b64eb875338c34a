use Rattle.awari_check.proofs.CheckLaws.{one_check_fault, no_check_fault}
use Rattle.awari_check.proofs.laws.one_check_fault_is_due.Goals as goal

pub returns-clause-one : goal.returns-clause-one
returns-clause-one c = one_check_fault

pub returns-clause-none : goal.returns-clause-none
returns-clause-none c = no_check_fault
