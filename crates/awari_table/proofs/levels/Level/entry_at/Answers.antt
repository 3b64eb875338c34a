use Rattle.awari_table.proofs.levels.Level.entry_at.Goals as goal

pub returns : goal.returns
returns c = cc
