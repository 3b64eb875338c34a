use Rattle.std.proofs.Common.{arith, ◌<◌, length, sym, ◌∙◌}
use Rattle.std.proofs.lemmas.List.{length-map}
use Rattle.awari_lines.proofs.Settling.{settled_more, settled_row, settled_exact, settled_flag}
use Rattle.awari_phase.specs.Owners.{all_ends, ends_of}
use Rattle.awari_phase.proofs.settling.settle_owners.Goals as goal

pub loop-i-preserved : goal.loop-i-preserved
loop-i-preserved c =
    let low = c.loop-j-test.true in
    let long = length-map c.args.all.now ends_of in
    let within : c.loop-j.j < length (all_ends c.args.all.now) = omega (arith, low, long) in
    let kept = length-map c.settle_pair-quiet.new.all ends_of ∙ c.settle_pair-quiet.auto.all ∙ sym (length-map c.loop-i.all ends_of) in (
      settled_more (all_ends c.args.all.now) (all_ends c.loop-i.all) (all_ends c.settle_pair-quiet.new.all) c.loop-i.empty c.settle_pair-quiet.result c.both-empty.result c.loop-j.j c.loop-i.i c.loop-i-test.true within
          c.loop-i.invariant.0 kept c.settle_pair-quiet.ensures.looked c.settle_pair-quiet.ensures.flag c.both-empty.ensures,
      c.settle_pair-quiet.ensures.rest ∙ c.loop-i.invariant.1,
    )

pub loop-j-preserved : goal.loop-j-preserved
loop-j-preserved c = (settled_row (all_ends c.args.all.now) (all_ends c.loop-i.all) c.loop-i.empty c.loop-j.j c.loop-i.i (omega arith) c.loop-i.invariant.0, c.loop-i.invariant.1)

pub returns-clause-exact : goal.returns-clause-exact
returns-clause-exact c =
    let high = c.loop-j-test.false in
    let long = length-map c.args.all.now ends_of in
    settled_exact (all_ends c.args.all.now) (all_ends c.loop-j.all) c.loop-j.empty c.loop-j.j (omega (arith, high, long)) c.loop-j.invariant.0

pub returns-clause-flag : goal.returns-clause-flag
returns-clause-flag c =
    let high = c.loop-j-test.false in
    let long = length-map c.args.all.now ends_of in
    settled_flag (all_ends c.args.all.now) (all_ends c.loop-j.all) c.loop-j.empty c.loop-j.j (omega (arith, high, long)) c.loop-j.invariant.0
