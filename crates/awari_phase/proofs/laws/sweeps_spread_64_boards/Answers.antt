use Rattle.std.proofs.Common.{refl}
use Rattle.awari_phase.proofs.laws.sweeps_spread_64_boards.Goals as goal

pub returns : goal.returns
returns c = refl
