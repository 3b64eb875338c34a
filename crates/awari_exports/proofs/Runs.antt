-- Loops over files and over boards, a step at a time.
use Rattle.std.proofs.Common.{◌≡◌, ◌+◌, ◌<◌, ◌++◌, ℕ, zero, suc, List, [], ◌∷◌, ap, arith, below_more, drop, get_or, length, map, refl, set, subst, take}

-- what holds of each below n, and of n, holds of each below n + 1
pub one_more : (P : ℕ → Type 0) (n : ℕ) → ((i : ℕ) → i < n → P i) → P n → (i : ℕ) → i < n + 1 → P i
one_more P n all at i low = below_more P n all at i low

-- a result is put behind those that stand in the room
put_suc : {X Y : Type 0} (f : X → Y) (xs : List X) (room : List Y) (n : ℕ) (d : X) → n < length xs → n < length room
    → set (map f (take n xs) ++ drop n room) n (f (get_or xs n d)) ≡ map f (take (suc n) xs) ++ drop (suc n) room
put_suc f [] room n d low fits = absurd (omega (arith, low))
put_suc f (x ∷ xs) [] n d low fits = absurd (omega (arith, fits))
put_suc f (x ∷ xs) (y ∷ room) zero d low fits = refl
put_suc {X} {Y} f (x ∷ xs) (y ∷ room) (suc n) d low fits = ap (λ (l : List Y). f x ∷ l) (put_suc f xs room n d (omega (arith, low)) (omega (arith, fits)))

pub put_next : {X Y : Type 0} (f : X → Y) (xs : List X) (room : List Y) (n : ℕ) (d : X) → n < length xs → n < length room
    → set (map f (take n xs) ++ drop n room) n (f (get_or xs n d)) ≡ map f (take (n + 1) xs) ++ drop (n + 1) room
put_next f xs room n d low fits =
    let more : suc n ≡ n + 1 = omega arith in
    subst (λ (m : ℕ). set (map f (take n xs) ++ drop n room) n (f (get_or xs n d)) ≡ map f (take m xs) ++ drop m room) more (put_suc f xs room n d low fits)
