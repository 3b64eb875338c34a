use Rattle.awari_board.proofs.moves.MoveFault.number.Goals as goal

pub returns-in-Ended : goal.returns-in-Ended
returns-in-Ended c = cc
