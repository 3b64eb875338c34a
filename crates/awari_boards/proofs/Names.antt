-- How long a name is.
use Rattle.std.proofs.Common.{◌≡◌, length, refl}
use Rattle.awari_faults.specs.Meanings.{name_of}

pub refused_len : length (name_of 22) ≡ 7
unfolding name_of
refused_len = refl
