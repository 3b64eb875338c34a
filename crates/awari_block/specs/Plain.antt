-- A board's value and distance, and what a list of notes says of them, plans aside.
use Rattle.std.specs.Prelude.{◌≡◌, ℕ, ◌+◌, ◌<◌, ◌≤◌, ◌==◌, ◌⊎◌, Bool, not, ◌&&◌, List, ℤ, pos, neg_ℤ, ◌-ℤ◌, ◌≤ℤ◌, ◌<ℤ◌, Option, Some, None, count_by, sum}
use Rattle.awari_board.specs.Rules.{IsMove, IsEnd, IsEnded, captured}
use Rattle.awari_board.specs.Tests.{is_legal}
use Rattle.awari_block.specs.Notes.{Has, gain_by, is_won_at, far_of}
use Rattle.awari_block.specs.Pits.{pits}
use Rattle.awari_block.specs.declared.notes.Note.{Note}

-- What is known of a board's value. Ended: the board is ended, and its gain is not open yet. Open: the quiet moves of
-- which no Won note was heard, the best capture, if there is one, and the greatest distance of a Won note. Settled:
-- value and distance.
pub data Status : Type 0 where
  Ended : ℤ → Status
  Open : ℕ → Option ℤ → ℕ → Status
  Settled : ℤ → ℕ → Status

-- whether the move from pit x is quiet and has no Won note, and how many are so
abbrev pub is_left : List ℕ → List Note → ℕ → Bool
is_left p notes x = (is_legal p x && (captured p x == 0)) && not (is_won_at notes x)

abbrev pub left_of : List ℕ → List Note → ℕ
left_of p notes = count_by (is_left p notes) pits

-- some capture of p gains v, where a board is worth this value to its mover
abbrev pub Captures : (List ℕ → ℤ) → List ℕ → ℤ → Type 0
Captures value p v = (x c : ℕ) × (q : List ℕ) × IsMove p x c q × (0 < c) × (v ≡ (pos c -ℤ value q))

-- the best that a capture gains, or none where none is legal
abbrev pub IsBest : (List ℕ → ℤ) → List ℕ → Option ℤ → Type 0
IsBest value p None = (v : ℤ) → Captures value p v → ⊥
IsBest value p (Some best) = Captures value p best × ((v : ℤ) → Captures value p v → v ≤ℤ best)

-- a capture gains v, or a note says so of its move
abbrev pub Knows : (List ℕ → ℤ) → List ℕ → List Note → ℤ → Type 0
Knows value p notes v = Captures value p v ⊎ ((m : Note) × Has notes m × (v ≡ gain_by m.kind m.gain))

-- Nothing known reaches t, and something may exceed -t: a quiet move with no Won note, or what is known.
pub record IsOpenAt (value : List ℕ → ℤ) (p : List ℕ) (notes : List Note) (t : ℕ) : Type 0 where
  pub below : (v : ℤ) → Knows value p notes v → v <ℤ pos t
  pub above : (0 < left_of p notes) ⊎ ((v : ℤ) × Knows value p notes v × (neg_ℤ (pos t) <ℤ v))

-- the distance of a board that is not ended: 1 where a capture gains its positive value, else one more than the Lost
-- note of that gain with least distance; at a negative value one more than the greatest distance of a Won note
abbrev pub IsDistance : (List ℕ → ℤ) → List ℕ → List Note → ℤ → ℕ → Type 0
IsDistance value p notes v dist =
    ((pos 0 <ℤ v) × Captures value p v × (dist ≡ 1))
    ⊎ ((pos 0 <ℤ v) × (Captures value p v → ⊥)
    × ((m : Note) × Has notes m × (gain_by m.kind m.gain ≡ v) × (dist ≡ m.dist + 1)
    × ((k : Note) → Has notes k → gain_by k.kind k.gain ≡ v → m.dist ≤ k.dist)))
    ⊎ ((v <ℤ pos 0) × (dist ≡ far_of notes + 1))

-- v is the greatest of what is known, and it is at least t, or at most -t with each quiet move known to be won
pub record IsSettledAs (value : List ℕ → ℤ) (p : List ℕ) (notes : List Note) (t : ℕ) (v : ℤ) (dist : ℕ) : Type 0 where
  pub known : Knows value p notes v
  pub most : (u : ℤ) → Knows value p notes u → u ≤ℤ v
  pub reached : (pos t ≤ℤ v) ⊎ ((v ≤ℤ neg_ℤ (pos t)) × (left_of p notes ≡ 0))
  pub distance : IsDistance value p notes v dist

-- what an open board's counts are
pub record IsCount (value : List ℕ → ℤ) (p : List ℕ) (notes : List Note) (left : ℕ) (best : Option ℤ) (far : ℕ) : Type 0 where
  pub quiet_left : left ≡ left_of p notes
  pub best_capture : IsBest value p best
  pub farthest : far ≡ far_of notes

-- what the status is, once the notes came in, at the open gain t
abbrev pub IsPlain : (List ℕ → ℤ) → List ℕ → List Note → ℕ → Status → Type 0
IsPlain value p notes t (Ended gain) = IsEnd p gain × (sum p < t)
IsPlain value p notes t (Open left best far) = (IsEnded p → ⊥) × IsCount value p notes left best far × IsOpenAt value p notes t
IsPlain value p notes t (Settled v dist) =
    (IsEnd p v × (t ≤ sum p) × (dist ≡ 0)) ⊎ ((IsEnded p → ⊥) × IsSettledAs value p notes t v dist)
