-- The boards and the bytes of one level more.
use Rattle.std.proofs.Common.{◌≡◌, ◌∙◌, ℕ, suc, ◌+◌, add-one, ap, refl}
use Rattle.awari_file.specs.FileText.{file_len}
use Rattle.awari_rank.specs.Rank.{size_of}
use Rattle.awari_builds.specs.Estimates.{boards_below, files_below}

boards_of_next : (n : ℕ) → boards_below (suc n) ≡ boards_below n + size_of n
unfolding boards_below
boards_of_next n = refl

files_of_next : (n : ℕ) → files_below (suc n) ≡ files_below n + file_len n
unfolding files_below
files_of_next n = refl

pub boards_more : (n : ℕ) → boards_below (n + 1) ≡ boards_below n + size_of n
boards_more n = ap boards_below (add-one n) ∙ boards_of_next n

pub files_more : (n : ℕ) → files_below (n + 1) ≡ files_below n + file_len n
files_more n = ap files_below (add-one n) ∙ files_of_next n

pub boards_none : boards_below 0 ≡ 0
unfolding boards_below
boards_none = refl

pub files_none : files_below 0 ≡ 0
unfolding files_below
files_none = refl
