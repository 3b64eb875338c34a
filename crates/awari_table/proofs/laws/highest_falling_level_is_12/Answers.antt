use Rattle.std.proofs.Common.{refl}
use Rattle.awari_table.proofs.laws.highest_falling_level_is_12.Goals as goal

pub returns : goal.returns
returns c = refl
