use Rattle.std.proofs.Common.{rules, arith}
use Rattle.awari_lines.proofs.Settling.{settled_more, settled_row, settled_exact, settled_flag}
use Rattle.awari_lines.proofs.looks.settle.Goals as goal

pub loop-i-preserved : goal.loop-i-preserved
loop-i-preserved g c =
    settled_more c.args.all.now c.loop-i.all c.settle_pair-quiet.new.all c.loop-i.empty c.settle_pair-quiet.result c.both-empty.result c.loop-j.j c.loop-i.i c.loop-i-test.true (omega arith)
    c.loop-i.invariant (search rules) c.settle_pair-quiet.ensures.looked c.settle_pair-quiet.ensures.flag c.both-empty.ensures

pub loop-j-preserved : goal.loop-j-preserved
loop-j-preserved g c = settled_row c.args.all.now c.loop-i.all c.loop-i.empty c.loop-j.j c.loop-i.i (omega arith) c.loop-i.invariant

pub returns-clause-exact : goal.returns-clause-exact
returns-clause-exact g c = settled_exact c.args.all.now c.loop-j.all c.loop-j.empty c.loop-j.j (omega arith) c.loop-j.invariant

pub returns-clause-flag : goal.returns-clause-flag
returns-clause-flag g c = settled_flag c.args.all.now c.loop-j.all c.loop-j.empty c.loop-j.j (omega arith) c.loop-j.invariant
