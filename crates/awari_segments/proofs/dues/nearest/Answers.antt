use Rattle.awari_segments.proofs.NearestDue.{IsDueBelow-none, IsDueBelow-more, IsDueBelow-end, read_part}
use Rattle.awari_segments.proofs.dues.nearest.Goals as goal

pub loop-segment-init : goal.loop-segment-init
loop-segment-init c = IsDueBelow-none c.args.segments.now

pub loop-segment-preserved : goal.loop-segment-preserved
loop-segment-preserved c =
    let read = read_part c.args.segments.now c.loop-segment.segment-index c.segment-item.result c.loop-segment-test.true c.segment-item.is in
    IsDueBelow-more c.wave.result c.args.segments.now c.loop-segment.segment-index c.segment-item.result c.loop-segment.least c.due_from.result c.nearer-least.result c.loop-segment-test.true read c.nearer-least.ensures c.loop-segment.invariant c.due_from.ensures.none c.due_from.ensures.least c.due_from.ensures.some

pub returns : goal.returns
returns c =
    let done = IsDueBelow-end c.args.segments.now c.loop-segment.segment-index c.loop-segment.least c.loop-segment-test.false c.loop-segment.invariant in
    record { none = done.none; least = done.least; some = done.some }
