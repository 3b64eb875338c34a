use Rattle.std.proofs.Common.{◌<◌, ◌≤◌, inl, inr, length, arith}
use Rattle.awari_folder.proofs.States.{unchanged, unchanged_then}
use Rattle.awari_places.proofs.Reading.{still_says}
use Rattle.awari_places.proofs.Running.{fault_before, run-none}
use Rattle.awari_play.proofs.Lasting.{err_same}
use Rattle.awari_rank.specs.Rank.{size_of}
use Rattle.awari_counts.proofs.CellLaws.{tabled-all, tabled-more, tabled-none}
use Rattle.awari_counts.proofs.LaneLaws.{sum-zeros}
use Rattle.awari_counts.proofs.TallyLaws.{sized_said}
use Rattle.awari_facts.proofs.RankLaws.{some_entry}
use Rattle.awari_counts.proofs.tables.count_own.Goals as goal

pub loop-rank-init : goal.loop-rank-init
loop-rank-init g c = record {
  long = c.in_ok-counts.ensures.long;
  few = omega (arith, sum-zeros c.in_ok-counts.counts.items c.in_ok-counts.ensures.zeros);
  unchanged = unchanged _;
  counted = λ levels images says low. (run-none images c.args.table.level c.new-run.result c.new-run.ensures, tabled-none images c.args.table c.in_ok-counts.counts.items c.in_ok-counts.ensures.zeros);
  sized = λ some. absurd (omega (arith, some));
}

pub loop-rank-preserved : goal.loop-rank-preserved
loop-rank-preserved g c =
    let i = c.loop-rank.invariant in
    let few : c.args.table.level ≤ 24 = c.requires.level in
    let ranked : c.loop-rank.rank < size_of c.args.table.level = omega (arith, c.loop-rank-test.true, c.size-rank-end.ensures.boards) in
    let inside : c.in_ok-cell.cell < length c.loop-rank.counts.items = omega (arith, c.in_ok-cell.ensures.inside, i.long, c.loop-rank.counts.ok.0) in
    record {
      long = omega (arith, i.long, c.count_cell.ensures.long);
      few = omega (arith, i.few, c.count_cell.ensures.all);
      unchanged = unchanged_then _ _ _ i.unchanged c.in_ok-entry.ensures.same;
      counted = λ levels images says low.
          let before = i.counted levels images says low in
          let still = still_says _ _ levels images i.unchanged.stands says in
          let (board, at) = some_entry images c.args.table.level c.loop-rank.rank c.in_ok-entry.entry (c.in_ok-entry.ensures.entry levels images still low before.0) few ranked in
          let own = c.in_ok-cell.ensures.cell images board at in (
            c.in_ok-entry.ensures.run levels images still low before.0,
            tabled-more images c.args.table c.loop-rank.rank board c.loop-rank.counts.items c.count_cell.new.counts.items c.in_ok-cell.cell before.1 at.listed own inside c.count_cell.ensures.more,
          );
      sized = λ some levels images says low.
          let still = still_says _ _ levels images i.unchanged.stands says in
          sized_said _ levels c.args.table.level c.loop-rank.rank images c.in_ok-entry.entry still low (c.in_ok-entry.ensures.entry levels images still low (i.counted levels images says low).0);
    }

pub returns-clause-few : goal.returns-clause-few
returns-clause-few g c = omega (arith, c.loop-rank.invariant.few)

pub returns-clause-sized : goal.returns-clause-sized
returns-clause-sized g c = λ levels images says low. c.loop-rank.invariant.sized (omega (arith, c.size-rank-end.ensures.some)) levels images says low

pub returns-clause-counted : goal.returns-clause-counted
returns-clause-counted g c = λ levels images says low.
    tabled-all images c.args.table c.loop-rank.rank c.loop-rank.counts.items (c.loop-rank.invariant.counted levels images says low).1 (omega (arith, c.size-rank-end.ensures.boards))

pub returns-in_err-entry-clause-fault : goal.returns-in_err-entry-clause-fault
returns-in_err-entry-clause-fault g c =
    err_same c.from_residual-in_err-entry.result _ _ c.from_residual-in_err-entry.ensures.1 (
    inr (inl (fault_before c.args.table.level c.loop-rank.rank 0 _ _ _ c.loop-rank.invariant.unchanged.stands (omega arith) c.in_err-entry.ensures.fault)))

pub returns-in_err-cell-clause-fault : goal.returns-in_err-cell-clause-fault
returns-in_err-cell-clause-fault g c =
    let i = c.loop-rank.invariant in
    let few : c.args.table.level ≤ 24 = c.requires.level in
    let ranked : c.loop-rank.rank < size_of c.args.table.level = omega (arith, c.loop-rank-test.true, c.size-rank-end.ensures.boards) in
    err_same c.from_residual-in_err-cell.result _ _ c.from_residual-in_err-cell.ensures.1 (
    inr (inr (
      c.in_err-cell.ensures.fault,
      λ levels images says low.
          let before = i.counted levels images says low in
          let still = still_says _ _ levels images i.unchanged.stands says in
          let (board, at) = some_entry images c.args.table.level c.loop-rank.rank c.in_ok-entry.entry (c.in_ok-entry.ensures.entry levels images still low before.0) few ranked in
          (c.loop-rank.rank, record { board = board; listed = at.listed; none = c.in_err-cell.ensures.none images board at }),
    )))
