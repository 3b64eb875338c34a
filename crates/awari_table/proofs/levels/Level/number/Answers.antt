use Rattle.awari_table.proofs.levels.Level.number.Goals as goal

pub returns-clause-number : goal.returns-clause-number
returns-clause-number c = cc
