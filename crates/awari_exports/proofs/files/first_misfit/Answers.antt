use Rattle.std.proofs.Common.{rules, List, ℕ, map, refl, subst, []}
use Rattle.std.specs.Prelude.{slice_index_or}
use Rattle.awari_exports.specs.Files.{IsSized}
use Rattle.awari_exports.proofs.Runs.{one_more}
use Rattle.awari_exports.proofs.files.first_misfit.Goals as goal

pub loop-level-preserved : goal.loop-level-preserved
loop-level-preserved c =
    let files : List (List ℕ) = map (λ file. file.now) c.args.files.now in let k = c.loop-level.level in
    let own : IsSized k c.file_at-file.result.now = search rules in
    (refl, one_more (λ i. IsSized i (slice_index_or files i [])) k c.loop-level.invariant.1 (subst (λ (b : List ℕ). IsSized k b) c.file_at-file.ensures own))
