use Rattle.std.proofs.Common.{arith, refl, ◌∙◌}
use Rattle.awari_lines.proofs.Growing.{connected_then, grid_after}
use Rattle.awari_lines.proofs.making.add_owner.Goals as goal

pub loop-other-preserved : goal.loop-other-preserved
loop-other-preserved g c =
    connected_then c.args.room c.args.all.now.items c.loop-other.other-items c.loop-other.pairs.items _ c.loop-other.other-index c.other-item.result _ c.connect.new.self c.in_ok-pair.pair
    c.in_ok-push.ensures.items c.loop-other.invariant (omega (arith, c.loop-other.invariant.long)) refl c.in_ok-pair.ensures

pub returns-clause-grid : goal.returns-clause-grid
returns-clause-grid g c =
    grid_after c.args.room c.args.all.now.items c.loop-other.other-items c.push-2.new.self.items c.loop-other.pairs.items c.loop-other.other-index c.args.all.now.len _
    c.in_ok-push-2.ensures.items c.args.all.now.ok.0 (omega (arith, c.loop-other.invariant.long)) c.requires.grid c.loop-other.invariant (c.requires.owner ∙ c.args.all.now.ok.0) refl
