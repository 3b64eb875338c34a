use Rattle.std.proofs.Common.{◌∙◌, ap}
use Rattle.awari_packed.proofs.Digits.{pits-from_IsPackOf, IsPacking-from_IsPackOf}
use Rattle.awari_packed.proofs.Moving.{stone_moved}
use Rattle.awari_packed.proofs.boards.PackedBoard.with_stone_moved.Goals as goal

pub invariant_of-result : goal.invariant_of-result
invariant_of-result c = IsPacking-from_IsPackOf c.with_stone_moved.ensures

pub returns : goal.returns
returns c = pits-from_IsPackOf c.with_stone_moved.ensures ∙ ap (λ b. stone_moved b c.args.from c.args.to) c.self.view_is
