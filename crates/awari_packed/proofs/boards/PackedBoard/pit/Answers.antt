use Rattle.awari_packed.proofs.boards.PackedBoard.pit.Goals as goal

pub returns : goal.returns
returns c = cc
