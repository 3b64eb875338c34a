use Rattle.std.proofs.Common.{refl, arith}
use Rattle.awari_theory.specs.Older.{DistancesFall}
use Rattle.awari_verify.proofs.FaultLemmas.{decided}
use Rattle.awari_verify.proofs.older.verify_old.Goals as goal

pub returns-in-None-clause-ok : goal.returns-in-None-clause-ok
returns-in-None-clause-ok c = (
  λ _.
      let low = c.if-image-gt-HIGHEST_FALLING_LEVEL.false in
      (omega (arith, low), (decided DistancesFall c.args.shelf.now c.args.image.now c.old_refusal.result c.fault_after.result c.in_ok-boards.ensures.ok.0 c.old_refusal.ensures c.fault_after.ensures).0.0 (rw c.in-None.is refl)),
  λ _. refl,
)
