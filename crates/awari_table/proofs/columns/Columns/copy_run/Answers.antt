use Rattle.std.proofs.Common.{arith, refl}
use Rattle.std.proofs.lemmas.Grind.{common_steps}
use Rattle.awari_table.proofs.RunLemmas.{copied}
use Rattle.awari_table.proofs.columns.Columns.copy_run.Goals as goal

pub loop-k-preserved : goal.loop-k-preserved
loop-k-preserved c =
    let low = c.loop-k-test.true in (
      refl,
      grind (arith, common_steps),
      copied c.args.self.now c.loop-k.run c.args.from c.loop-k.k c.at.result c.at.ensures (omega (arith, c.loop-k.invariant.1, low)) c.loop-k.invariant.2,
    )
