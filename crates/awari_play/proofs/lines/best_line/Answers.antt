use Rattle.std.proofs.Common.{arith, refl, subst}
use Rattle.awari_play.specs.OnShelf.{on_shelf}
use Rattle.awari_play.specs.Unplayed.{IsUnplayed}
use Rattle.awari_play.proofs.Following.{best_line-value}
use Rattle.awari_play.proofs.Lasting.{shelf_plans}
use Rattle.awari_play.proofs.lines.best_line.Goals as goal

pub unreachable-requires-in-Err-Illegal : goal.unreachable-requires-in-Err-Illegal
unreachable-requires-in-Err-Illegal c =
    shelf_plans c.args.shelf _ c.levels-levels.ensures.shelf (subst (IsUnplayed on_shelf c.args.shelf) c.in-Err-Illegal.field-0-is c.in-Err-Illegal.ensures.fault)

pub returns-in-Ok-clause-value : goal.returns-in-Ok-clause-value
returns-in-Ok-clause-value c =
    best_line-value _ _ _ _ _ c.levels-levels.ensures.shelf c.stones.ensures.board (let low = c.if-stones-levels.false in omega (arith, low, c.stones.ensures.stones, c.levels-levels.ensures.levels)) (c.in-Ok.ensures.line _ refl)
