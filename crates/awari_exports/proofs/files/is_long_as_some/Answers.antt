use Rattle.std.proofs.Common.{rules, arith}
use Rattle.awari_exports.specs.Files.{IsSized}
use Rattle.awari_exports.proofs.Runs.{one_more}
use Rattle.awari_exports.proofs.files.is_long_as_some.Goals as goal

pub loop-level-preserved : goal.loop-level-preserved
loop-level-preserved c =
    let none : IsSized c.loop-level.level c.args.bytes.now → ⊥ = search rules in
    one_more (λ n. IsSized n c.args.bytes.now → ⊥) c.loop-level.level c.loop-level.invariant none

pub returns-clause-none : goal.returns-clause-none
returns-clause-none c = λ _ n few. c.loop-level.invariant n (omega (arith, few, c.loop-level-test.false))
