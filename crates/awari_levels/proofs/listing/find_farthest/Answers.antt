use Rattle.std.proofs.Common.{◌<◌, ◌≤◌, ap, arith, cond, max, ◌∙◌}
use Rattle.awari_folder.proofs.States.{unchanged, unchanged_then}
use Rattle.awari_rank.specs.Rank.{size_of}
use Rattle.awari_places.proofs.Running.{run-none}
use Rattle.awari_levels.proofs.ChoiceLaws.{farthest-all, farthest-more, farthest-none, farthest-unasked}
use Rattle.awari_facts.proofs.SourceLaws.{says_still}
use Rattle.awari_play.proofs.Lasting.{err_same}
use Rattle.awari_levels.proofs.FaultLaws.{list_entry}
use Rattle.awari_facts.proofs.RankLaws.{some_entry}
use Rattle.awari_levels.proofs.WantedLaws.{within-key}
use Rattle.awari_levels.proofs.listing.find_farthest.Goals as goal

pub returns-then-not-asked-clause-farthest : goal.returns-then-not-asked-clause-farthest
returns-then-not-asked-clause-farthest g c = λ images says. farthest-unasked c.args.asked.wanted.now images c.args.asked.level c.if-not-asked.true

pub loop-rank-init : goal.loop-rank-init
loop-rank-init g c = record {
  unchanged = unchanged _;
  found = λ images says. (run-none images c.args.asked.level c.new-run.result c.new-run.ensures, (c.in_ok-segment.ensures.keys c.args.asked.wanted.now images c.args.asked.level, farthest-none c.args.asked.wanted.now images c.args.asked.level));
}

pub loop-rank-preserved : goal.loop-rank-preserved
loop-rank-preserved g c =
    let i = c.loop-rank.invariant in
    let low : c.args.asked.level ≤ 24 = omega (arith, c.requires.known, c.requires.few) in
    let inside : c.loop-rank.rank < size_of c.args.asked.level = omega (arith, c.loop-rank-test.true, c.size-rank-end.ensures.boards) in
    record {
      unchanged = unchanged_then _ _ _ i.unchanged c.in_ok-entry.ensures.same;
      found = λ images says.
          let before = i.found images says in
          let still = says_still c.args.asked.source _ _ images i.unchanged.stands says in
          let (board, at) = some_entry images c.args.asked.level c.loop-rank.rank c.in_ok-entry.entry (c.in_ok-entry.ensures.entry images still before.0) low inside in
          let after = says_still c.args.asked.source _ _ images c.in_ok-entry.ensures.same.stands still in
          let key = c.look-key.ensures.key _ images after before.1.0 board at in (
            c.in_ok-entry.ensures.run images still before.0,
            (
              c.look-key.ensures.keys _ images after before.1.0,
              c.farther-farthest.ensures ∙ ap (λ b. cond b (max c.loop-rank.farthest c.in_ok-entry.entry.dist) c.loop-rank.farthest) (c.is_some.ensures ∙ within-key c.args.asked.wanted.now images board c.look-key.result key)
                  ∙ farthest-more c.args.asked.wanted.now images c.args.asked.level c.loop-rank.rank c.loop-rank.farthest board c.in_ok-entry.entry before.1.1 at,
            ),
          );
    }

pub returns-clause-farthest : goal.returns-clause-farthest
returns-clause-farthest g c = λ images says.
    farthest-all _ _ _ _ _ (c.loop-rank.invariant.found images says).1.1 (omega (arith, c.size-rank-end.ensures.boards)) c.if-not-asked.false

pub returns-in_err-entry-clause-fault : goal.returns-in_err-entry-clause-fault
returns-in_err-entry-clause-fault g c =
    err_same c.from_residual-in_err-entry.result _ _ c.from_residual-in_err-entry.ensures.1 (
    list_entry c.args.asked.source c.args.asked.level _ _ _ _ c.loop-rank.invariant.unchanged.stands c.in_err-entry.ensures.fault)
