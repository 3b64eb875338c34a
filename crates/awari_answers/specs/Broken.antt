-- Where the entry stands that breaks a rule, in the text of levels and in a level's file, and what the rule asks.
use Rattle.std.specs.Prelude.{◌≢◌, ℕ, zero, suc, ◌+◌, ◌<◌, ◌≤◌, List, codes}
use Rattle.awari_rank.specs.Rank.{size_of}
use Rattle.awari_table.specs.declared.TheConstants.{HIGHEST_LEVEL}
use Rattle.awari_verify.specs.declared.rules.Rule.{Rule}
use Rattle.awari_verify.specs.declared.rules.Rule.TheVariants.{V1, V2, V3, V4, V5, V6, V7}

-- the rule is about a board, which V7 is not, and the level has a board of this rank
abbrev pub HasBoard : ℕ → ℕ → Rule → Type 0
HasBoard level rank rule = (rule ≢ V7) × (level ≤ HIGHEST_LEVEL) × (rank < size_of level)

-- how many lines the text of the levels below this one has: each level has one before those of its boards
unfoldable pub lines_below : ℕ → ℕ
lines_below zero = 0
lines_below (suc n) = lines_below n + (1 + size_of n)

-- the line that says a level's limit, and the line of an entry, counted from 1
abbrev pub limit_line : ℕ → ℕ
limit_line level = lines_below level + 1

abbrev pub entry_line : ℕ → ℕ → ℕ
entry_line level rank = lines_below level + 2 + rank

-- the byte of a level's file at which its limit begins, counted from 0
abbrev pub limit_byte : ℕ
limit_byte = 16

-- what a rule asks, as the end of a sentence
abbrev pub asked_text : Rule → List ℕ
asked_text V1 = codes "a value is from -N to N for N stones, and a plan none or 0 to 5"
asked_text V2 = codes "if play has ended, the value is the mover's gain, the plan none, the distance 0"
asked_text V3 = codes "if play has not ended, the plan is a legal pit"
asked_text V4 = codes "no legal move gains more than the value"
asked_text V5 = codes "the plan gains the value"
asked_text V6 = codes "the distance is the least, and a won board's plan captures or leads to a smaller one"
asked_text V7 = codes "the limit is the greatest distance of the level"
