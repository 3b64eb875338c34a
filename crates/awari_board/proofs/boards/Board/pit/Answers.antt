use Rattle.awari_board.proofs.boards.Board.pit.Goals as goal

pub returns-clause-stones : goal.returns-clause-stones
returns-clause-stones c = cc
