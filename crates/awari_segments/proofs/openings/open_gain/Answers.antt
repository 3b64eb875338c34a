use Rattle.std.proofs.Common.{◌<◌, ◌≤◌, length, rules}
use Rattle.awari_segments.proofs.EachPart.{EachBelow-none, EachBelow-next, EachBelow-end}
use Rattle.awari_segments.specs.Each.{OpensGain}
use Rattle.awari_segments.proofs.openings.open_gain.Goals as goal

pub loop-k-init : goal.loop-k-init
loop-k-init c = EachBelow-none (OpensGain c.args.gain) c.args.segments.now

pub loop-k-preserved : goal.loop-k-preserved
loop-k-preserved c =
    let inside : c.loop-k.k < length c.loop-k.segments = search rules in
    EachBelow-next (OpensGain c.args.gain) _ _ _ c.index-segments-k.result c.open_gain_of.new.segment c.loop-k.invariant inside c.in_ok-open_gain_of.ensures

pub returns : goal.returns
returns c = let end : length c.loop-k.segments ≤ c.loop-k.k = search rules in EachBelow-end (OpensGain c.args.gain) _ _ _ c.loop-k.invariant end
