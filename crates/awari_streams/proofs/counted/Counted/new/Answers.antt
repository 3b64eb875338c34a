use Rattle.awari_streams.proofs.counted.Counted.new.Goals as goal

pub returns-clause-faults : goal.returns-clause-faults
returns-clause-faults g c = cc
