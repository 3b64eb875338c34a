use Rattle.std.proofs.Common.{refl}
use Rattle.awari_table.proofs.laws.highest_level_is_24.Goals as goal

pub returns : goal.returns
returns c = refl
