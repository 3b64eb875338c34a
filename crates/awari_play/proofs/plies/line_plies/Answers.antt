use Rattle.std.proofs.Common.{subst}
use Rattle.awari_play.specs.OnShelf.{on_shelf}
use Rattle.awari_play.specs.Unplayed.{IsUnlined}
use Rattle.awari_play.proofs.Lasting.{shelf_lines}
use Rattle.awari_play.proofs.plies.line_plies.Goals as goal

pub unreachable-requires-in-Err-Illegal : goal.unreachable-requires-in-Err-Illegal
unreachable-requires-in-Err-Illegal c =
    shelf_lines c.args.longest c.args.shelf _ c.levels-levels.ensures.shelf
    (subst (IsUnlined c.args.longest on_shelf (λ s fault. ⊥) c.args.shelf) c.in-Err-Illegal.field-0-is c.in-Err-Illegal.ensures.fault)
