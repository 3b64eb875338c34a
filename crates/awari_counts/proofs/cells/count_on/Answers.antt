use Rattle.std.proofs.Common.{◌≡◌, ◌+◌, inr, length, subst, arith}
use Rattle.awari_facts.specs.Sources.{images_of}
use Rattle.awari_counts.proofs.CellLaws.{segment-counted, segment-lacks, tabled-all, tabled-none}
use Rattle.awari_counts.proofs.LaneLaws.{sum-zeros}
use Rattle.awari_counts.specs.Tables.{AreTabledTo}
use Rattle.awari_counts.proofs.cells.count_on.Goals as goal

pub loop-first-init : goal.loop-first-init
loop-first-init g c = record {
  within = omega arith;
  room = omega (arith, c.in-Ok-vec.ensures.len);
  long = c.in-Ok.ensures.long;
  few = omega (arith, sum-zeros c.in-Ok.counts.items c.in-Ok.ensures.zeros);
  counted = tabled-none (images_of c.args.levels) c.args.table c.in-Ok.counts.items c.in-Ok.ensures.zeros;
}

pub loop-first-preserved : goal.loop-first-preserved
loop-first-preserved g c =
    let i = c.loop-first.invariant in
    let long : length c.as_mut_slice.result.now ≡ c.min-many.result = omega (arith, c.as_mut_slice.ensures.len, c.truncate.ensures.len, c.min-many.ensures, i.room) in
    record {
      within = omega (arith, c.min-many.ensures, i.within);
      room = omega (arith, c.truncate.ensures.len, c.min-many.ensures, i.room);
      long = c.count_segment.ensures.long;
      few = omega (arith, c.count_segment.ensures.few, long);
      counted =
          subst (λ n. AreTabledTo (images_of c.args.levels) c.args.table (c.loop-first.first + n) c.count_segment.new.counts.items) long
          (segment-counted (images_of c.args.levels) _ _ _ _ c.count_segment.result c.if-not-count_segment.false c.count_segment.ensures.counted i.counted);
    }

pub returns-then-not-count_segment-clause-fault : goal.returns-then-not-count_segment-clause-fault
returns-then-not-count_segment-clause-fault g c =
    inr (c.wrong_limit.ensures, segment-lacks (images_of c.args.levels) _ _ _ _ c.count_segment.result c.if-not-count_segment.true c.count_segment.ensures.counted)

pub returns-clause-counted : goal.returns-clause-counted
returns-clause-counted g c =
    let i = c.loop-first.invariant in
    tabled-all (images_of c.args.levels) c.args.table c.loop-first.first c.loop-first.counts.items i.counted (omega (arith, i.within, c.loop-first-test.false, c.size-boards.ensures.boards))
