use Rattle.std.proofs.Common.{◌≡◌, ◌+◌, suc, ap, arith, ◌∙◌}
use Rattle.awari_rank.specs.Tuples.{ways}
use Rattle.awari_rank.proofs.Counting.{ways_is}
use Rattle.awari_rank.proofs.laws.tuples_are_counted_by_binomials.Goals as goal

pub returns : goal.returns
returns c k n = let next : k + 1 ≡ suc k = omega arith in ap (λ j. ways j n) next ∙ ways_is k n
