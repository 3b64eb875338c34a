use Rattle.std.proofs.Common.{◌++◌, ◌∷◌, [], Option, subst, sym}
use Rattle.awari_rank.specs.Rank.{size_of}
use Rattle.awari_table.specs.Certificate.{DistancesAreLeast}
use Rattle.awari_table.specs.Images.{table_of}
use Rattle.awari_verify.specs.FirstFailure.{IsFirst}
use Rattle.awari_verify.specs.declared.search.Refusal.{Refusal}
use Rattle.awari_verify.proofs.FaultLemmas.{decided}
use Rattle.awari_verify.proofs.TruthLemmas.{TellsTruth-verified}
use Rattle.awari_verify.proofs.verdicts.fault_by.Goals as goal

pub returns-in-Ok-clause-none : goal.returns-in-Ok-clause-none
returns-in-Ok-clause-none c =
    let T = table_of (c.args.shelf.now ++ c.args.image.now ∷ []) in
    (decided DistancesAreLeast c.args.shelf.now c.args.image.now c.refusal.result c.fault_after.result c.in-Ok.ensures.ok.0
    (subst (λ (first : Option Refusal). IsFirst DistancesAreLeast T c.args.image.now.level 0 (size_of c.args.image.now.level) first) (sym c.refusal.ensures) c.completed.ensures) c.fault_after.ensures).0

pub returns-in-Ok-clause-meaning : goal.returns-in-Ok-clause-meaning
returns-in-Ok-clause-meaning c = λ empty.
    TellsTruth-verified c.args.shelf.now c.args.image.now c.in-Ok.ensures.shelf ((returns-in-Ok-clause-none c).0 empty)
