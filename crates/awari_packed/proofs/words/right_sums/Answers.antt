use Rattle.std.proofs.Common.{refl, arith}
use Rattle.std.proofs.lemmas.List.Sums.{sum_by-take-drop}
use Rattle.awari_packed.specs.Packed.{pits_of}
use Rattle.awari_packed.proofs.Halves.{sum_at}
use Rattle.awari_packed.proofs.words.right_sums.Goals as goal

pub returns-clause-sums : goal.returns-clause-sums
returns-clause-sums c i here = sum_at c.args.bits _ i c.requires refl here

pub returns-clause-few : goal.returns-clause-few
returns-clause-few c i here = omega (arith, sum_at c.args.bits _ i c.requires refl here, sum_by-take-drop (λ x. x) (pits_of c.args.bits) i, c.requires.few)
