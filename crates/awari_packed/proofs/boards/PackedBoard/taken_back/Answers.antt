use Rattle.std.proofs.Common.{◌-◌, ◌∙◌, ap}
use Rattle.awari_packed.specs.TakenBack.{taken_back}
use Rattle.awari_packed.proofs.Digits.{pits-from_IsPackOf, IsPacking-from_IsPackOf}
use Rattle.awari_packed.proofs.boards.PackedBoard.taken_back.Goals as goal

pub invariant_of-result : goal.invariant_of-result
invariant_of-result c = IsPacking-from_IsPackOf c.taken_back.ensures

pub returns : goal.returns
returns c = pits-from_IsPackOf c.taken_back.ensures ∙ ap (λ b. taken_back b c.args.origin (c.args.last - c.args.origin)) c.self.view_is
