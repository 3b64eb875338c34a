use Rattle.awari_owner_tests.proofs.false_notes.close.Goals as goal

pub loop-gain-init : goal.loop-gain-init
loop-gain-init g c = record {
  made = c.spread_all.ensures.made;
  share = λ n owners i share. c.spread_all.ensures.share n owners i (c.take_own.ensures.share n owners i (c.open_next_gain.ensures.share n owners i share));
}

pub loop-gain-preserved : goal.loop-gain-preserved
loop-gain-preserved g c = record {
  made = c.spread_all-in-loop-gain.ensures.made;
  share = λ n owners i share.
      c.spread_all-in-loop-gain.ensures.share n owners i (c.open_next_gain-in-loop-gain.ensures.share n owners i (c.loop-gain.invariant.share n owners i share));
}
