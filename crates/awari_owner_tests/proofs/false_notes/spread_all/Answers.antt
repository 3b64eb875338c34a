use Rattle.awari_owner_tests.proofs.false_notes.spread_all.Goals as goal

pub returns-then-not-spread_nearest-clause-share :
    goal.returns-then-not-spread_nearest-clause-share
returns-then-not-spread_nearest-clause-share g c n owners i share = c.spread_nearest.ensures.share n owners i (c.loop-board.invariant.share n owners i share)

pub loop-board-preserved : goal.loop-board-preserved
loop-board-preserved g c = record {
  made = c.spread_nearest.ensures.made;
  share = λ n owners i share. c.spread_nearest.ensures.share n owners i (c.loop-board.invariant.share n owners i share);
}
