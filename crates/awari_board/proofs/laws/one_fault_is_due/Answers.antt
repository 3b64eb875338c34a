use Rattle.awari_board.proofs.Faults.{one_due, none_due}
use Rattle.awari_board.proofs.laws.one_fault_is_due.Goals as goal

pub returns-clause-one : goal.returns-clause-one
returns-clause-one c = one_due

pub returns-clause-none : goal.returns-clause-none
returns-clause-none c = none_due
