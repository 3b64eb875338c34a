use Rattle.awari_verify.proofs.OlderLemmas.{inconsistent_from_old_fault, one_old_due}
use Rattle.awari_verify.proofs.older.one_old_fault_is_due.Goals as goal

pub returns-clause-one : goal.returns-clause-one
returns-clause-one c = one_old_due

pub returns-clause-none : goal.returns-clause-none
returns-clause-none c = inconsistent_from_old_fault
