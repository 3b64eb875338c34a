-- What a board is worth, with no table: the most that a mover can force.
use Rattle.std.specs.Prelude.{◌≡◌, ℕ, zero, suc, ◌<◌, ◌≤◌, ◌⊎◌, Bool, true, false, List, sum, ℤ, pos, neg_ℤ, ◌-ℤ◌, ◌≤ℤ◌}
use Rattle.awari_board.specs.Rules.{IsMove, IsEnd, IsEnded}

-- The mover can get at least t (at `true`), or the other can hold the mover to -t (at `false`), within k plies before a capture or the end.
-- `worth q w` says what a board with fewer stones is worth.
abbrev pub Forced : (List ℕ → ℤ → Type 0) → Bool → ℕ → ℕ → List ℕ → Type 0
Forced worth true t zero p = (g : ℤ) × IsEnd p g × (pos t ≤ℤ g)
Forced worth false t zero p = (g : ℤ) × IsEnd p g × (g ≤ℤ neg_ℤ (pos t))
Forced worth true t (suc k) p =
    ((g : ℤ) × IsEnd p g × (pos t ≤ℤ g))
    ⊎ ((x : ℕ) × (c : ℕ) × (q : List ℕ) × IsMove p x c q
    × (((0 < c) × (w : ℤ) × worth q w × (pos t ≤ℤ (pos c -ℤ w)))
    ⊎ ((c ≡ 0) × Forced worth false t k q)))
Forced worth false t (suc k) p =
    ((g : ℤ) × IsEnd p g × (g ≤ℤ neg_ℤ (pos t)))
    ⊎ ((IsEnded p → ⊥)
    × ((x c : ℕ) (q : List ℕ) → IsMove p x c q
    → ((0 < c) × (w : ℤ) × worth q w × ((pos c -ℤ w) ≤ℤ neg_ℤ (pos t)))
    ⊎ ((c ≡ 0) × Forced worth true t k q)))

-- t is the greatest number from 1 on that can be forced so
abbrev pub Greatest : (List ℕ → ℤ → Type 0) → Bool → List ℕ → ℕ → Type 0
Greatest worth side p t = (1 ≤ t) × ((k : ℕ) × Forced worth side t k p) × ((s k : ℕ) → t < s → Forced worth side s k p → ⊥)

-- none can be forced
abbrev pub NoneForced : (List ℕ → ℤ → Type 0) → Bool → List ℕ → Type 0
NoneForced worth side p = (t k : ℕ) → 1 ≤ t → Forced worth side t k p → ⊥

-- what p is worth, by what boards with fewer stones are worth
abbrev pub IsWorthBy : (List ℕ → ℤ → Type 0) → List ℕ → ℤ → Type 0
IsWorthBy worth p w =
    ((t : ℕ) × Greatest worth true p t × (w ≡ pos t))
    ⊎ ((t : ℕ) × NoneForced worth true p × Greatest worth false p t × (w ≡ neg_ℤ (pos t)))
    ⊎ (NoneForced worth true p × NoneForced worth false p × (w ≡ pos 0))

-- what a board with fewer than n stones is worth
abbrev pub IsWorthBelow : ℕ → List ℕ → ℤ → Type 0
IsWorthBelow zero p w = ⊥
IsWorthBelow (suc n) p w = (sum p ≤ n) × IsWorthBy (λ q v. (sum q < sum p) × IsWorthBelow n q v) p w

-- what a board is worth
abbrev pub IsWorth : List ℕ → ℤ → Type 0
IsWorth p w = IsWorthBelow (suc (sum p)) p w
