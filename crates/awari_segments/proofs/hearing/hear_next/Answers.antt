use Rattle.awari_segments.proofs.Heard.{joins_passed, same_passed}
use Rattle.awari_segments.proofs.hearing.hear_next.Goals as goal

pub returns-then-settled-clause-settles : goal.returns-then-settled-clause-settles
returns-then-settled-clause-settles c = record {
  settles = c.hear_settled.ensures.settles;
  passed = same_passed c.args.segment.now c.hear_settled.new.self c.hear_settled.ensures.settles.same c.hear_settled.ensures.same;
}

pub returns-clause-settles : goal.returns-clause-settles
returns-clause-settles c = record {
  settles = c.in_ok-hear.ensures.settles;
  passed = joins_passed c.args.segment.now c.hear.new.self _ _ c.args.kind c.in_ok-hear.ensures.settles.same c.in_ok-hear.ensures.hears c.in_ok-hear.ensures.joins;
}
