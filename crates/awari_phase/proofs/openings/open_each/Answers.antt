use Rattle.std.proofs.Common.{refl, arith}
use Rattle.awari_phase.specs.Owners.{JoinsWave}
use Rattle.awari_phase.proofs.Each.{done_all, done_more}
use Rattle.awari_phase.proofs.openings.open_each.Goals as goal

pub loop-i-preserved : goal.loop-i-preserved
loop-i-preserved c =
    let low = c.loop-i-test.true in
    let long = c.loop-i.invariant.many in
    done_more (JoinsWave c.args.dist) c.args.owners.now c.loop-i.owners c.loop-i.i _ c.index-owners-i.result c.open_wave.new.owner (omega (arith, low, long)) refl c.loop-i.invariant c.open_wave.ensures

pub returns : goal.returns
returns c =
    let high = c.loop-i-test.false in
    record { many = c.loop-i.invariant.many; each = done_all (JoinsWave c.args.dist) c.args.owners.now c.loop-i.owners c.loop-i.i (omega (arith, high)) c.loop-i.invariant }
