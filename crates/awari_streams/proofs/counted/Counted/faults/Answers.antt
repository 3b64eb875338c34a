use Rattle.awari_streams.proofs.counted.Counted.faults.Goals as goal

pub returns : goal.returns
returns g c = cc
