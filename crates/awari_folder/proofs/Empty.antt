-- Of no board is anything said by no levels.
use Rattle.std.proofs.Common.{◌≡◌, List, [], arith, subst, sym}
use Rattle.awari_table.specs.declared.images.Image.{Image}
use Rattle.awari_theory.specs.Truth.{TellsTruth}

truth_of_none : TellsTruth []
unfolding TellsTruth
truth_of_none board is low = absurd (omega (arith, low))

pub truth_of_empty : (levels : List Image) → levels ≡ [] → TellsTruth levels
truth_of_empty levels none = subst TellsTruth (sym none) truth_of_none
