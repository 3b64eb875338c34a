use Rattle.awari_board.proofs.Legal.{legal_is, ended_is}
use Rattle.awari_board.proofs.laws.tests_decide.Goals as goal

pub returns-clause-legal : goal.returns-clause-legal
returns-clause-legal c = legal_is

pub returns-clause-ended : goal.returns-clause-ended
returns-clause-ended c = ended_is
