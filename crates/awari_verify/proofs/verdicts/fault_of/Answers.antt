use Rattle.std.proofs.Common.{◌++◌, ◌∷◌, [], subst}
use Rattle.awari_table.specs.Certificate.{DistancesAreLeast}
use Rattle.awari_table.specs.Images.{table_of}
use Rattle.awari_verify.specs.FirstFailure.{IsFirst}
use Rattle.awari_verify.proofs.FaultLemmas.{decided}
use Rattle.awari_verify.proofs.TruthLemmas.{TellsTruth-verified}
use Rattle.awari_verify.proofs.verdicts.fault_of.Goals as goal

pub returns-in-Ok-clause-none : goal.returns-in-Ok-clause-none
returns-in-Ok-clause-none c =
    let shaped = c.in-Ok.ensures.ok in
    let T = table_of (c.args.shelf.now ++ c.args.image.now ∷ []) in
    (decided DistancesAreLeast c.args.shelf.now c.args.image.now c.first_refusal.result c.fault_after.result shaped.0
    (subst (λ n. IsFirst DistancesAreLeast T c.args.image.now.level 0 n c.first_refusal.result) shaped.1 c.first_refusal.ensures) c.fault_after.ensures).0

pub returns-in-Ok-clause-meaning : goal.returns-in-Ok-clause-meaning
returns-in-Ok-clause-meaning c = λ empty.
    TellsTruth-verified c.args.shelf.now c.args.image.now c.in-Ok.ensures.shelf ((returns-in-Ok-clause-none c).0 empty)
