-- The lines of one level more.
use Rattle.std.proofs.Common.{◌≡◌, ◌∙◌, ℕ, suc, ◌+◌, add-one, ap, refl}
use Rattle.awari_rank.specs.Rank.{size_of}
use Rattle.awari_answers.specs.Broken.{lines_below}

lines_of_next : (n : ℕ) → lines_below (suc n) ≡ lines_below n + (1 + size_of n)
unfolding lines_below
lines_of_next n = refl

pub lines_more : (n : ℕ) → lines_below (n + 1) ≡ lines_below n + (1 + size_of n)
lines_more n = ap lines_below (add-one n) ∙ lines_of_next n

pub lines_none : lines_below 0 ≡ 0
unfolding lines_below
lines_none = refl
