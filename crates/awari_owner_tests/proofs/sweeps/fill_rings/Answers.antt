use Rattle.std.proofs.Common.{refl, arith}
use Rattle.awari_lines.specs.Rings.{SamePairs}
use Rattle.awari_phase.specs.declared.owners.Owner.{Owner}
use Rattle.awari_phase.proofs.Each.{done_all, done_more}
use Rattle.awari_phase.proofs.Grown.{grid_pairs}
use Rattle.awari_owner_tests.proofs.sweeps.fill_rings.Goals as goal

pub loop-i-preserved : goal.loop-i-preserved
loop-i-preserved g c =
    let low = c.loop-i-test.true in
    let long = c.loop-i.invariant.many in
    done_more (λ (a b : Owner). SamePairs a.ends b.ends) c.args.owners.now c.loop-i.owners c.loop-i.i _ c.index-owners-i.result c.fill_ring.new.owner (omega (arith, low, long)) refl c.loop-i.invariant c.fill_ring.ensures

pub returns : goal.returns
returns g c =
    let high = c.loop-i-test.false in
    grid_pairs c.args.owners.now c.loop-i.owners c.loop-i.invariant.many (done_all (λ (a b : Owner). SamePairs a.ends b.ends) c.args.owners.now c.loop-i.owners c.loop-i.i (omega (arith, high)) c.loop-i.invariant) c.requires
