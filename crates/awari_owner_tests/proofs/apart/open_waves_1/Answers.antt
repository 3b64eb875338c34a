use Rattle.std.proofs.Common.{refl, arith}
use Rattle.awari_phase.specs.Owners.{JoinsWave}
use Rattle.awari_phase.proofs.Each.{done_all, done_more}
use Rattle.awari_phase.proofs.Gaining.{all_grown_waves}
use Rattle.awari_owner_tests.proofs.apart.open_waves_1.Goals as goal

pub loop-i-preserved : goal.loop-i-preserved
loop-i-preserved g c =
    let low = c.loop-i-test.true in
    let long = c.loop-i.invariant.many in
    done_more (JoinsWave 1) c.args.owners.now c.loop-i.owners c.loop-i.i _ c.index-owners-i.result c.open_wave_1.new.owner (omega (arith, low, long)) refl c.loop-i.invariant c.open_wave_1.ensures

pub returns : goal.returns
returns g c =
    let high = c.loop-i-test.false in
    all_grown_waves c.args.owners.now c.loop-i.owners 1 c.loop-i.invariant.many (done_all (JoinsWave 1) c.args.owners.now c.loop-i.owners c.loop-i.i (omega (arith, high)) c.loop-i.invariant) c.requires
