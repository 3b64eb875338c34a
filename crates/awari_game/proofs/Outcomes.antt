-- When a play has which outcome.
use Rattle.std.proofs.Common.{◌≡◌, ℕ, ◌↔◌, inl, inr, ℤ, Some, sym, ap, ◌∙◌, subst}
use Rattle.awari_board.specs.Rules.{IsEnd}
use Rattle.awari_game.specs.Plays.{Standing, signed, IsOutcome}
use Rattle.awari_game.specs.Shown.{IsShown}

-- where the board is ended, the outcome is with the gain
pub at_end : (limit : ℕ) (seen s : Standing) (gain given outcome : ℤ) → IsShown seen s → IsEnd seen.board gain → given ≡ signed seen.first_moves seen.running gain
    → (Some given ≡ Some outcome) ↔ IsOutcome limit s outcome
at_end limit seen s gain given outcome shown end is =
    let there : IsEnd s.board gain = subst (λ board. IsEnd board gain) shown.board end in
    let is_there : given ≡ signed s.first_moves s.running gain = rw (← shown.running, ← shown.first_moves) is in (
      λ same. let equal : given ≡ outcome = cc in inl (gain, there, sym equal ∙ is_there),
      λ known. elim known [
        | inl over ↦
            let one : over.0 ≡ gain = over.1.gains ∙ sym there.gains in
            ap Some (is_there ∙ ap (λ g. signed s.first_moves s.running g) (sym one) ∙ sym over.2)
        | inr long ↦ absurd (long.0 there.stuck)
      ],
    )
