use Rattle.std.proofs.Common.{◌∙◌, ap}
use Rattle.awari_board.specs.Rules.{turned}
use Rattle.awari_packed.proofs.Digits.{pits-from_IsPackOf, IsPacking-from_IsPackOf}
use Rattle.awari_packed.proofs.Whole.{IsBoard-pits_of}
use Rattle.awari_packed.proofs.boards.PackedBoard.turned.Goals as goal

pub invariant_of-result : goal.invariant_of-result
invariant_of-result c = IsPacking-from_IsPackOf c.turned.ensures

pub returns-clause-turned : goal.returns-clause-turned
returns-clause-turned c = pits-from_IsPackOf c.turned.ensures ∙ ap turned c.self.view_is

pub returns-clause-board : goal.returns-clause-board
returns-clause-board c = rw (← c.self.view_is) (IsBoard-pits_of c.self.inside.bits c.self.invariant)
