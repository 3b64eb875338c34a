use Rattle.std.proofs.Common.{◌≤◌, sum, ◌∙◌, arith}
use Rattle.awari_unmove.proofs.Undoing.{stones-le, unmoves_from-held, unmoves_from-stuck}
use Rattle.awari_unmove.proofs.far.next_far.Goals as goal

pub returns-then-pit-gt0-clause-given : goal.returns-then-pit-gt0-clause-given
returns-then-pit-gt0-clause-given c =
    let none = unmoves_from-held _ _ _ _ _ c.requires (omega (arith, c.pit.ensures)) in
    (none, none)

pub loop-stones-smaller : goal.loop-stones-smaller
loop-stones-smaller c =
    let now = c.loop-stones.invariant.undoing in
    let most : c.loop-stones.stones ≤ sum c.args.back.now = stones-le _ _ _ _ (omega (arith, now.own)) now.unsowing in
    let few = now.few in
    let more = c.take_back.ensures.more in
    omega arith

pub returns-clause-given : goal.returns-clause-given
returns-clause-given c =
    let none = unmoves_from-stuck _ _ _ _ _ c.loop-stones.invariant.undoing (omega (arith, c.pit-in-loop-stones.ensures)) in
    (c.loop-stones.invariant.same ∙ none, none)
