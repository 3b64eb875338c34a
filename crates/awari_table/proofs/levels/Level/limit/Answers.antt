use Rattle.awari_table.proofs.levels.Level.limit.Goals as goal

pub returns : goal.returns
returns c = cc
