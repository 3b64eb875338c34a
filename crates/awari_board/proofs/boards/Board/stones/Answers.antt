use Rattle.awari_board.proofs.boards.Board.stones.Goals as goal

pub returns-clause-stones : goal.returns-clause-stones
returns-clause-stones c = cc
