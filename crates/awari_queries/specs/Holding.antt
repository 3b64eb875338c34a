-- The first ones of a list, sorted by a number.
use Rattle.std.specs.Prelude.{◌≡◌, ◌<◌, ◌≤◌, ℕ, zero, suc, List, ◌∷◌, [], length, filter, fold, take, if◌then◌else◌, IfSome, ℤ, int_le, int_lt}
use Rattle.awari_queries.specs.declared.holding.Held.{Held}
use Rattle.awari_queries.specs.declared.holding.Holding.{Holding}

-- one more in a list, behind all those whose number is not greater
abbrev pub placed : {A : Type 0} → (A → ℤ) → A → List A → List A
placed by x [] = x ∷ []
placed by x (y ∷ ys) = if int_lt (by x) (by y) then x ∷ y ∷ ys else y ∷ placed by x ys

-- a list by number, the least first; those of one number stay in their order
abbrev pub sorted : {A : Type 0} → (A → ℤ) → List A → List A
sorted by xs = fold (λ front x. placed by x front) [] xs

-- the first ones of a list, as many as that; 0 is all
abbrev pub first : {A : Type 0} → ℕ → List A → List A
first zero xs = xs
first (suc n) xs = take (suc n) xs

-- the number by which boards that are held are sorted
abbrev pub number_of : Held → ℤ
number_of held = held.number

-- of these boards, so many have no greater number than this
abbrev pub to_number : ℤ → List Held → ℕ
to_number n boards = length (filter (λ held. int_le (number_of held) n) boards)

-- Of boards that came, those are held of which the first ones are theirs. As many as are wanted have no greater number than the bound.
pub record Holds (seen : List Held) (holding : Holding) : Type 0 where
  pub same : first holding.most (sorted number_of holding.boards.items) ≡ first holding.most (sorted number_of seen)
  pub bound : IfSome holding.bound (λ n. (0 < holding.most) × (holding.most ≤ to_number n seen))
