use Rattle.std.proofs.Common.{◌≡◌, length, get_or, ap, sym, ◌∙◌, arith}
use Rattle.std.proofs.lemmas.List.{get_or-map, length-map}
use Rattle.std.proofs.lemmas.List.Sums.{sum_by_more}
use Rattle.awari_block.specs.Counts.{spread_of}
use Rattle.awari_lines.specs.Rings.{owners_of}
use Rattle.awari_phase.specs.Owners.{parts_of}
use Rattle.awari_phase.specs.declared.owners.Owner.{Owner}
use Rattle.awari_phase.proofs.Together.{many_at}
use Rattle.awari_phase.proofs.phases.settled_boards.Goals as goal

-- there are at most 16 owners
pub overflow_add-boards : goal.overflow_add-boards
overflow_add-boards c =
    let os = c.args.owners.now in
    let o = c.owner-item.result in
    let many : owners_of o.ends ≡ length os = ap (λ (p : Owner). owners_of p.ends) c.owner-item.is ∙ many_at os o c.requires c.loop-owner.owner-index c.loop-owner-test.true in
    let most = o.few in
    let low = c.loop-owner-test.true in
    let before = c.loop-owner.invariant.few in
    let few = c.boards_spread-boards.ensures.few in
    omega (arith, many, most, low, before, few)

pub loop-owner-preserved : goal.loop-owner-preserved
loop-owner-preserved c =
    let os = c.args.owners.now in
    let o = c.owner-item.result in
    let low = c.loop-owner-test.true in
    let more = sum_by_more spread_of (parts_of os) c.loop-owner.owner-index o.part (let long = length-map os (λ (p : Owner). p.part) in omega (arith, low, long)) in
    let here : get_or (parts_of os) c.loop-owner.owner-index o.part ≡ o.part =
    get_or-map (λ (p : Owner). p.part) os c.loop-owner.owner-index o o.part low ∙ ap (λ (p : Owner). p.part) (sym c.owner-item.is) in
    let same = ap spread_of here in
    let counted = c.loop-owner.invariant.counted in
    let count = c.boards_spread-boards.ensures.count in
    let before = c.loop-owner.invariant.few in
    let few = c.boards_spread-boards.ensures.few in
    record { counted = omega (arith, more, same, counted, count); few = omega (arith, before, few) }
