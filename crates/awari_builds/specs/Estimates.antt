-- What a build takes: the boards of levels, and the bytes of their files.
use Rattle.std.specs.Prelude.{ℕ, zero, suc, ◌+◌}
use Rattle.awari_file.specs.FileText.{file_len}
use Rattle.awari_rank.specs.Rank.{size_of}

-- how many boards the levels below this one have
unfoldable pub boards_below : ℕ → ℕ
boards_below zero = 0
boards_below (suc n) = boards_below n + size_of n

-- the bytes of their files
unfoldable pub files_below : ℕ → ℕ
files_below zero = 0
files_below (suc n) = files_below n + file_len n
