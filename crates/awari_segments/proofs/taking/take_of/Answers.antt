use Rattle.std.proofs.Common.{sym, ◌∙◌}
use Rattle.awari_segments.proofs.Takes.{takes_both}
use Rattle.awari_segments.proofs.Passing.{past_both_kinds, past_gives_none}
use Rattle.awari_segments.proofs.taking.take_of.Goals as goal

pub returns-clause-takes : goal.returns-clause-takes
returns-clause-takes c =
    let first = c.in_ok-give.ensures.given in
    let second = c.in_ok-give-2.ensures.given in (
      first.0,
      second.0,
      first.1,
      second.1,
      takes_both c.args.stake c.args.segment.now c.give.new.self c.give-2.new.self first.0 second.0 (sym c.stake.ensures.stake ∙ c.is_same.ensures.0 c.if-not-is_same.false) first.2 c.in_ok-give.ensures.fresh second.2
          c.in_ok-give-2.ensures.fresh,
    )

pub returns-clause-past : goal.returns-clause-past
returns-clause-past c =
    let first = c.in_ok-give.ensures.given in
    let second = c.in_ok-give-2.ensures.given in
    past_both_kinds c.args.stake c.args.segment.now c.give.new.self c.give-2.new.self first.0 second.0 (sym c.stake.ensures.stake ∙ c.is_same.ensures.0 c.if-not-is_same.false) first.2 second.2 c.in_ok-give.ensures.opened
    c.in_ok-give-2.ensures.fresh

pub returns-clause-none : goal.returns-clause-none
returns-clause-none c past =
    let first = c.in_ok-give.ensures.given in
    let second = c.in_ok-give-2.ensures.given in
    past_gives_none c.args.stake c.args.segment.now c.give.new.self c.give-2.new.self first.0 second.0 (sym c.stake.ensures.stake ∙ c.is_same.ensures.0 c.if-not-is_same.false) first.2 second.2 _ _ _ _ first.1 second.1 past
