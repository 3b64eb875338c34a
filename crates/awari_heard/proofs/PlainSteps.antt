-- What a note, and what the opening of a gain, makes of a status, plans aside.
use Rattle.std.specs.Prelude.{ℕ, ◌+◌, ◌-◌, ◌==◌, ◌&&◌, Bool, true, if◌then◌else◌, max, ℤ, pos, neg_ℤ, int_le, Option, Some, None}
use Rattle.awari_block.specs.Plain.{Status, Ended, Open, Settled}
use Rattle.awari_block.specs.Steps.{is_best}
use Rattle.awari_block.specs.declared.notes.Kind.{Kind}
use Rattle.awari_block.specs.declared.notes.Kind.TheVariants.{Won, Lost}

-- whether no capture gains more than v
abbrev pub is_at_most : Option ℤ → ℤ → Bool
is_at_most None v = true
is_at_most (Some best) v = int_le best v

-- a note of the open gain t with this distance
abbrev pub after_note : Status → Kind → ℕ → ℕ → Status
after_note (Ended gain) kind t dist = Ended gain
after_note (Open left best far) Lost t dist = Settled (pos t) (dist + 1)
after_note (Open left best far) Won t dist =
    if (left == 1) && is_at_most best (neg_ℤ (pos t)) then Settled (neg_ℤ (pos t)) (max dist far + 1) else Open (left - 1) best (max dist far)
after_note (Settled value d) kind t dist = Settled value d

-- the opening of gain t in the level of n stones
abbrev pub after_opening : Status → ℕ → ℕ → Status
after_opening (Ended gain) n t = if t == n then Settled gain 0 else Ended gain
after_opening (Open left best far) n t =
    if is_best best (pos t)
    then Settled (pos t) 1
    else (if (left == 0) && is_best best (neg_ℤ (pos t)) then Settled (neg_ℤ (pos t)) (far + 1) else Open left best far)
after_opening (Settled value d) n t = Settled value d
