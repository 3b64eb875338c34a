-- What a note, and what the opening of a gain, makes of a status and of a cell.
use Rattle.std.specs.Prelude.{ℕ, ◌+◌, ◌^◌, ◌==◌, ◌&&◌, Bool, false, if◌then◌else◌, max, ℤ, pos, neg_ℤ, int_lt, Option, Some, None, bit_or}
use Rattle.std.specs.Ordering.{int_eq}
use Rattle.awari_block.specs.Pits.{with_pit, without_pit}
use Rattle.awari_block.specs.Tally.{Best, Nothing, ByCapture, ByNotes, Cell, Status, Ended, Open, Settled, best_gain, capture_of}
use Rattle.awari_block.specs.declared.notes.Kind.{Kind}
use Rattle.awari_block.specs.declared.notes.Kind.TheVariants.{Won, Lost}

-- whether this gain is v
abbrev pub is_best : Option ℤ → ℤ → Bool
is_best None v = false
is_best (Some best) v = int_eq best v

-- the greatest gain, once one more is v
abbrev pub greater_of : Option ℤ → ℤ → Option ℤ
greater_of None v = Some v
greater_of (Some best) v = if int_lt best v then Some v else Some best

-- the same, once a note says that a move gains v
abbrev pub best_after : Best → ℤ → Best
best_after Nothing v = ByNotes v
best_after (ByCapture best) v = if int_lt best v then ByNotes v else ByCapture best
best_after (ByNotes best) v = if int_lt best v then ByNotes v else ByNotes best

-- and the pits of the moves that gain it, once that from pit x is known to gain v
abbrev pub pits_after : Option ℤ → ℕ → ℤ → ℕ → ℕ
pits_after None pits v x = 2 ^ x
pits_after (Some best) pits v x = if int_lt best v then 2 ^ x else (if int_eq best v then with_pit pits x else pits)

-- at gain t a board is lost where no move is left and the best of those that are looked at gains -t
abbrev pub unless_lost : ℕ → Option ℤ → Best → ℕ → ℕ → ℕ → Status
unless_lost left looked best pits far t = if (left == 0) && is_best looked (neg_ℤ (pos t)) then Settled (neg_ℤ (pos t)) (far + 1) pits else Open best pits far

-- a note of pit x, of the open gain t with this distance, after which these pits are left
abbrev pub after_note : ℕ → Status → Kind → ℕ → ℕ → ℕ → Status
after_note left (Ended gain) kind x t dist = Ended gain
after_note left (Open best pits far) Lost x t dist = Settled (pos t) (dist + 1) (2 ^ x)
after_note left (Open best pits far) Won x t dist =
    unless_lost left (best_gain (best_after best (neg_ℤ (pos t)))) (best_after best (neg_ℤ (pos t))) (pits_after (best_gain best) pits (neg_ℤ (pos t)) x) (max dist far) t
after_note left (Settled value d pits) Won x t dist = Settled value d pits
after_note left (Settled value d pits) Lost x t dist = Settled value d (if int_eq value (pos t) && (d == dist + 1) then with_pit pits x else pits)

-- the opening of gain t in the level of n stones: what notes say is of greater gains
abbrev pub after_opening : ℕ → Status → ℕ → ℕ → Status
after_opening left (Ended gain) n t = if t == n then Settled gain 0 0 else Ended gain
after_opening left (Open best pits far) n t = if is_best (capture_of best) (pos t) then Settled (pos t) 1 pits else unless_lost left (capture_of best) best pits far t
after_opening left (Settled value d pits) n t = Settled value d pits

-- what these make of a cell
abbrev pub cell_after_note : Cell → Kind → ℕ → ℕ → ℕ → Cell
cell_after_note c kind x t dist = record { left = without_pit c.left x; status = after_note (without_pit c.left x) c.status kind x t dist }

abbrev pub cell_after_opening : Cell → ℕ → ℕ → Cell
cell_after_opening c n t = record { left = c.left; status = after_opening c.left c.status n t }

-- the pits that serve where a board is worth 0: those left, and those whose captures gain 0
abbrev pub even_pits : ℕ → Best → ℕ → ℕ
even_pits left best pits = if is_best (capture_of best) (pos 0) then bit_or left pits else left
