use Rattle.awari_board.proofs.text.BoardFault.number.Goals as goal

pub returns-in-Number : goal.returns-in-Number
returns-in-Number c = cc
