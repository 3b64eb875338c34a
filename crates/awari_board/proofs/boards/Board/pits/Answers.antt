use Rattle.awari_board.proofs.boards.Board.pits.Goals as goal

pub returns-clause-pits : goal.returns-clause-pits
returns-clause-pits c = cc
