use Rattle.std.proofs.Common.{◌≤◌, sum, arith, rules, tests}
use Rattle.awari_unmove.proofs.Undoing.{stones-le, legal-far, TakesBack-next, IsUndoingFrom-next, unmoves_from-gives, unmoves_from-passes}
use Rattle.awari_unmove.proofs.far.take_back.Goals as goal

pub overflow_add-stones : goal.overflow_add-stones
overflow_add-stones c =
    let now = c.requires.undoing in
    let most : c.args.stones.now ≤ sum c.args.back.now = stones-le _ _ _ _ (omega (arith, now.own)) now.unsowing in
    let few = now.few in
    omega arith

pub returns-then-captures_nothing-clause-undoing : goal.returns-then-captures_nothing-clause-undoing
returns-then-captures_nothing-clause-undoing c =
    let now = c.requires.undoing in
    IsUndoingFrom-next _ _ _ _ _ _ _ now (TakesBack-next _ _ _ _ _ _ now c.requires.empty c.requires.held c.with_stone_moved.ensures) (c.after.ensures c.args.stones.now now.next)

pub returns-then-captures_nothing-clause-given : goal.returns-then-captures_nothing-clause-given
returns-then-captures_nothing-clause-given c =
    let now = c.requires.undoing in
    let took = TakesBack-next _ _ _ _ _ _ now c.requires.empty c.requires.held c.with_stone_moved.ensures in
    unmoves_from-gives _ _ _ _ _ _ now took (legal-far _ _ _ _ _ _ now took) (c.captures_nothing.ensures.0 (search rules))

pub returns-else-captures_nothing-clause-undoing : goal.returns-else-captures_nothing-clause-undoing
returns-else-captures_nothing-clause-undoing c =
    let now = c.requires.undoing in
    IsUndoingFrom-next _ _ _ _ _ _ _ now (TakesBack-next _ _ _ _ _ _ now c.requires.empty c.requires.held c.with_stone_moved.ensures) (c.after.ensures c.args.stones.now now.next)

pub returns-else-captures_nothing-clause-given : goal.returns-else-captures_nothing-clause-given
returns-else-captures_nothing-clause-given c =
    let now = c.requires.undoing in
    unmoves_from-passes _ _ _ _ _ _ now (TakesBack-next _ _ _ _ _ _ now c.requires.empty c.requires.held c.with_stone_moved.ensures) (λ quiet. let yes = c.captures_nothing.ensures.1 quiet.1 in search (rules, tests))
