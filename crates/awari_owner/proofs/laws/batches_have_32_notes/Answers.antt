use Rattle.std.proofs.Common.{refl}
use Rattle.awari_owner.proofs.laws.batches_have_32_notes.Goals as goal

pub returns : goal.returns
returns c = refl
