use Rattle.std.proofs.Common.{◌++◌, ◌∷◌, []}
use Rattle.awari_rank.specs.Rank.{size_of}
use Rattle.awari_table.specs.Certificate.{DistancesAreLeast}
use Rattle.awari_table.specs.Images.{table_of}
use Rattle.awari_verify.specs.FirstFailure.{IsFirst}
use Rattle.awari_verify.proofs.FaultLemmas.{decided}
use Rattle.awari_verify.proofs.TruthLemmas.{TellsTruth-verified}
use Rattle.awari_verify.proofs.parallel.fault_beside.Goals as goal

pub returns-in-Ok-first-clause-none : goal.returns-in-Ok-first-clause-none
returns-in-Ok-first-clause-none g c =
    let T = table_of (c.args.shelf.now ++ c.args.image.now ∷ []) in
    let first : IsFirst DistancesAreLeast T c.args.image.now.level 0 (size_of c.args.image.now.level) c.in-Ok-first.first = rw c.in-Ok-first.is at c.first_beside-done.ensures.first in
    (decided DistancesAreLeast c.args.shelf.now c.args.image.now c.in-Ok-first.first c.fault_after.result c.in-Ok.ensures.ok.0 first c.fault_after.ensures).0.0

pub returns-in-Ok-first-clause-meaning : goal.returns-in-Ok-first-clause-meaning
returns-in-Ok-first-clause-meaning g c = λ empty.
    TellsTruth-verified c.args.shelf.now c.args.image.now c.in-Ok.ensures.shelf (returns-in-Ok-first-clause-none g c empty)
