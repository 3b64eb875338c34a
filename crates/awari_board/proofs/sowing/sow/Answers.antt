use Rattle.std.proofs.Common.{◌≡◌, ◌+◌, arith}
use Rattle.awari_board.specs.Rules.{landing}
use Rattle.awari_board.proofs.Falling.{IsSowing-more, landing_next, sown-from_IsSowing}
use Rattle.awari_board.proofs.sowing.sow.Goals as goal

pub loop-stone-preserved : goal.loop-stone-preserved
loop-stone-preserved c =
    let so_far = c.loop-stone.invariant in
    let next = c.pit_after-last.ensures in
    let there : c.pit_after-last.result ≡ landing c.args.origin (c.loop-stone._stone + 1) = landing_next _ _ _ _ so_far.first so_far.later next.first next.next in
    record {
      sowing = IsSowing-more _ _ _ _ _ so_far.sowing next.on_board there;
      first = λ none. absurd (omega arith);
      later = λ _. there;
    }

pub returns-clause-sown : goal.returns-clause-sown
returns-clause-sown c = sown-from_IsSowing _ _ _ _ (omega arith) c.loop-stone.invariant.sowing
