-- What holds of each of six, by its place.
use Rattle.std.proofs.Common.{ℕ, zero, suc, ◌<◌, [], ◌∷◌, arith}
use Rattle.std.specs.Prelude.{slice_index_or}

pub six : {X : Type 0} (P : ℕ → X → Type 0) (a b c d e f : X) → P 0 a → P 1 b → P 2 c → P 3 d → P 4 e → P 5 f
    → (i : ℕ) (x : X) → i < 6 → P i (slice_index_or (a ∷ b ∷ c ∷ d ∷ e ∷ f ∷ []) i x)
six P a b c d e f p q r s t u zero x low = p
six P a b c d e f p q r s t u (suc zero) x low = q
six P a b c d e f p q r s t u (suc (suc zero)) x low = r
six P a b c d e f p q r s t u (suc (suc (suc zero))) x low = s
six P a b c d e f p q r s t u (suc (suc (suc (suc zero)))) x low = t
six P a b c d e f p q r s t u (suc (suc (suc (suc (suc zero))))) x low = u
six P a b c d e f p q r s t u (suc (suc (suc (suc (suc (suc i)))))) x low = absurd (omega (arith, low))
