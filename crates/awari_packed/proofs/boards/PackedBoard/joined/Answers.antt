use Rattle.std.proofs.Common.{◌++◌, ◌∙◌, take, drop, ap, List, ℕ}
use Rattle.awari_packed.specs.Packed.{pits_of}
use Rattle.awari_packed.proofs.Digits.{pits-from_IsPackOf, IsPacking-from_IsPackOf}
use Rattle.awari_packed.proofs.Whole.{IsBoard-pits_of}
use Rattle.awari_packed.proofs.boards.PackedBoard.joined.Goals as goal

pub invariant_of-result : goal.invariant_of-result
invariant_of-result c = IsPacking-from_IsPackOf c.joined.ensures

pub returns-clause-board : goal.returns-clause-board
returns-clause-board c = IsBoard-pits_of c.joined.result (IsPacking-from_IsPackOf c.joined.ensures)

pub returns-clause-joined : goal.returns-clause-joined
returns-clause-joined c = pits-from_IsPackOf c.joined.ensures ∙ ap (λ (b : List ℕ). take 6 b ++ drop 6 (pits_of c.other.inside.bits)) c.self.view_is ∙ ap (λ (b : List ℕ). take 6 c.args.self.now ++ drop 6 b) c.other.view_is
