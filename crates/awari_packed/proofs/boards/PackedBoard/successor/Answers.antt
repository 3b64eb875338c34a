use Rattle.std.proofs.Common.{refl, arith}
use Rattle.awari_rank.specs.Held.{IsLastHeld}
use Rattle.awari_rank.proofs.Succeeding.{rank_of-last}
use Rattle.awari_packed.specs.Packed.{pits_of}
use Rattle.awari_packed.proofs.Nexts.{none_right}
use Rattle.awari_packed.proofs.Whole.{IsBoard-pits_of}
use Rattle.awari_packed.proofs.boards.PackedBoard.successor.Goals as goal

pub returns-then-bits-eq0-clause-last : goal.returns-then-bits-eq0-clause-last
returns-then-bits-eq0-clause-last c =
    let n = c.self.inside.bits in
    let only : IsLastHeld (pits_of n) 0 = record { in_range = omega arith; holds = λ some. absurd (omega arith); none_after = none_right n 1 11 (omega arith) (omega arith) } in
    rw (← c.self.view_is) (λ _. rank_of-last refl (IsBoard-pits_of n c.self.invariant) only refl, λ _. refl)

pub returns-clause-board : goal.returns-clause-board
returns-clause-board c = IsBoard-pits_of c.next.result c.next.ensures.packing
