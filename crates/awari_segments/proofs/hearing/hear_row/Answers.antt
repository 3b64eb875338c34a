use Rattle.std.proofs.Common.{◌≡◌, ◌/◌, ◌^◌, ◌∙◌, sym, rules}
use Rattle.awari_segments.proofs.Hearings.{past_both}
use Rattle.awari_segments.proofs.Steps.{hears_row}
use Rattle.awari_segments.proofs.hearing.hear_row.Goals as goal

pub returns-clause-hears : goal.returns-clause-hears
returns-clause-hears c =
    let at : c.args.segment.now.start / 2 ^ c.args.log ≡ c.block-start.result.0 / 2 ^ c.args.log = search rules in
    hears_row c.args.stake c.args.row.now (c.args.segment.now.start / 2 ^ c.args.log) (c.block-start.result.0 / 2 ^ c.args.log) c.args.segment.now c.hear_list.new.segment c.hear_list-2.new.segment c.list.result.now c.list-2.result.now
    (sym c.stake.ensures.stake ∙ c.is_same.ensures.0 c.if-not-is_same.false) at c.list.ensures c.list-2.ensures c.in_ok-hear_list.ensures.settles.settles c.in_ok-hear_list.ensures.hears c.in_ok-hear_list-2.ensures.settles.settles
    c.in_ok-hear_list-2.ensures.hears

pub returns-clause-settles : goal.returns-clause-settles
returns-clause-settles c = past_both c.args.segment.now c.hear_list.new.segment c.hear_list-2.new.segment c.in_ok-hear_list.ensures.settles c.in_ok-hear_list-2.ensures.settles
