use Rattle.std.proofs.Common.{◌^◌, ◌<◌, ◌≤◌, length, rules}
use Rattle.awari_segments.proofs.EachPart.{Both, EachBelow-none, EachBelow-next, EachBelow-end, each_first, each_second}
use Rattle.awari_segments.specs.Segments.{SettlesPast}
use Rattle.awari_segments.specs.Tellings.{HearsTelling, telling_of}
use Rattle.awari_segments.proofs.hearing.hear_rows.Goals as goal

pub loop-k-init : goal.loop-k-init
loop-k-init c = EachBelow-none (Both (HearsTelling (2 ^ c.args.log) (telling_of c.args.stake c.args.row.now)) SettlesPast) c.args.segments.now

pub loop-k-preserved : goal.loop-k-preserved
loop-k-preserved c =
    let inside : c.loop-k.k < length c.loop-k.segments = search rules in
    EachBelow-next (Both (HearsTelling (2 ^ c.args.log) (telling_of c.args.stake c.args.row.now)) SettlesPast) _ _ _ c.index-segments-k.result c.hear_row.new.segment c.loop-k.invariant inside
    (c.in_ok-hear_row.ensures.hears, c.in_ok-hear_row.ensures.settles)

pub returns : goal.returns
returns c =
    let end : length c.loop-k.segments ≤ c.loop-k.k = search rules in
    let all = EachBelow-end (Both (HearsTelling (2 ^ c.args.log) (telling_of c.args.stake c.args.row.now)) SettlesPast) _ _ _ c.loop-k.invariant end in
    record {
      hears = each_first (HearsTelling (2 ^ c.args.log) (telling_of c.args.stake c.args.row.now)) SettlesPast _ _ all;
      settles = each_second (HearsTelling (2 ^ c.args.log) (telling_of c.args.stake c.args.row.now)) SettlesPast _ _ all;
    }
