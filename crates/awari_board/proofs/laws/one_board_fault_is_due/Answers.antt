use Rattle.awari_board.proofs.Parsing.{fine, one_fault}
use Rattle.awari_board.proofs.laws.one_board_fault_is_due.Goals as goal

pub returns-clause-one : goal.returns-clause-one
returns-clause-one c = one_fault

pub returns-clause-none : goal.returns-clause-none
returns-clause-none c = λ text board fault wrong whole is. fine text board fault wrong whole is
