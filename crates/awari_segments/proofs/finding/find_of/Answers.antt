use Rattle.std.proofs.Common.{sum, refl}
use Rattle.awari_segments.proofs.Laying.{IsLaying-none, IsLaying-next, IsLaying-more, IsLaying-end}
use Rattle.awari_segments.proofs.finding.find_of.Goals as goal

pub loop-k-init : goal.loop-k-init
loop-k-init c = IsLaying-none _ _ _ _ _ c.find_all-count.ensures.found

pub loop-k-preserved : goal.loop-k-preserved
loop-k-preserved c =
    IsLaying-more _ _ _ _ _ _ _ _ _ _ c.loop-k.invariant
    (IsLaying-next _ (sum c.args.board.now) _ _ _ _ _ _ 0 (λ p x is move. c.moves_keep_boards.ensures.stones p c.args.board.now x 0 is move) refl c.loop-k.invariant c.loop-k-test.true)
    c.in_ok-lay.ensures

pub returns-clause-found : goal.returns-clause-found
returns-clause-found c = IsLaying-end _ (sum c.args.board.now) _ _ _ _ _ _ _ c.requires.board refl refl c.loop-k.invariant c.loop-k-test.false
