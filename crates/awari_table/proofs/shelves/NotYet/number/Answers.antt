use Rattle.awari_table.proofs.shelves.NotYet.number.Goals as goal

pub returns : goal.returns
returns c = cc
