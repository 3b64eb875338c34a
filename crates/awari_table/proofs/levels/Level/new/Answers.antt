use Rattle.awari_table.proofs.levels.Level.new.Goals as goal

pub returns : goal.returns
returns c = cc
