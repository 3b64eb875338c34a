-- A cell, and when it tells what a list of notes says of its board and its plans.
--
-- How to think of it. A cell does not keep the notes that its board heard. It keeps the pits of the
-- quiet moves that no note came of, the greatest gain that is known of a move with the pits that gain
-- it, and the greatest distance of a Won note. IsTally says that this is what some list of notes leaves
-- behind. A step is right if it turns the tally of any notes into a tally of these and the new ones. So
-- no step has to know who gave which note, and builders that give them in other orders have one proof.
use Rattle.std.specs.Prelude.{◌≡◌, ◌↔◌, ℕ, ◌^◌, ◌<◌, ◌≤◌, ◌==◌, ◌⊎◌, Bool, true, not, ◌&&◌, List, ℤ, pos, ◌-ℤ◌, ◌≤ℤ◌, ◌<ℤ◌, Option, Some, None}
use Rattle.awari_board.specs.Rules.{IsMove, captured}
use Rattle.awari_board.specs.Tests.{is_legal}
use Rattle.awari_block.specs.Notes.{IsQuietMove, Has, gain_by, is_heard_at, AreOfOtherPits}
pub use Rattle.awari_block.specs.Pits.{has_pit, with_pit, pits}
use Rattle.awari_block.specs.Plain as plain
pub use Rattle.awari_block.specs.Plain.{is_left, left_of, Captures, IsBest, Knows, IsPlain}
use Rattle.awari_block.specs.declared.notes.Note.{Note}

-- The greatest gain that is known of a move, if there is one: a capture gains it, or notes alone do.
pub data Best : Type 0 where
  Nothing : Best
  ByCapture : ℤ → Best
  ByNotes : ℤ → Best

-- what it is, and what it is where a capture gains it
abbrev pub best_gain : Best → Option ℤ
best_gain Nothing = None
best_gain (ByCapture best) = Some best
best_gain (ByNotes best) = Some best

abbrev pub capture_of : Best → Option ℤ
capture_of Nothing = None
capture_of (ByCapture best) = Some best
capture_of (ByNotes best) = None

-- Ended: the board is ended, and its gain is not open yet. Open: the greatest gain that is known of a move, the pits of the
-- moves that are known to gain it, and the greatest distance of a Won note. Settled: value, distance, and the pits that serve as
-- plans.
pub data Status : Type 0 where
  Ended : ℤ → Status
  Open : Best → ℕ → ℕ → Status
  Settled : ℤ → ℕ → ℕ → Status

-- the pits of the quiet moves of which no note was heard, a bit for each, and what is known of the board
pub record Cell : Type 0 where
  pub left : ℕ
  pub status : Status

-- whether the move from pit x is quiet and no note of it was heard
abbrev pub is_unheard : List ℕ → List Note → ℕ → Bool
is_unheard p notes x = (is_legal p x && (captured p x == 0)) && not (is_heard_at notes x)

-- the move from pit x is a capture that gains v
abbrev pub CapturesFrom : (List ℕ → ℤ) → List ℕ → ℕ → ℤ → Type 0
CapturesFrom value p x v = (c : ℕ) × (q : List ℕ) × IsMove p x c q × (0 < c) × (v ≡ (pos c -ℤ value q))

-- the move from pit x is known to gain v: it captures that, or a note says so
abbrev pub KnowsAt : (List ℕ → ℤ) → List ℕ → List Note → ℕ → ℤ → Type 0
KnowsAt value p notes x v = CapturesFrom value p x v ⊎ ((m : Note) × Has notes m × (m.pit ≡ x) × (v ≡ gain_by m.kind m.gain))

-- and it serves as a plan of a board of value v and this distance: where v is positive, a note is nearer than the board
abbrev pub KnownToServe : (List ℕ → ℤ) → List ℕ → List Note → ℤ → ℕ → ℕ → Type 0
KnownToServe value p notes v dist x =
    CapturesFrom value p x v ⊎ ((m : Note) × Has notes m × (m.pit ≡ x) × (v ≡ gain_by m.kind m.gain) × (pos 0 <ℤ v → m.dist < dist))

-- the greatest gain that is known of a move, with the pits that are known to gain it; or none where nothing is known
abbrev pub IsBestGain : (List ℕ → ℤ) → List ℕ → List Note → Option ℤ → ℕ → Type 0
IsBestGain value p notes None plans = (v : ℤ) → Knows value p notes v → ⊥
IsBestGain value p notes (Some best) plans =
    Knows value p notes best × ((v : ℤ) → Knows value p notes v → v ≤ℤ best) × ((x : ℕ) → x < 6 → (has_pit plans x ≡ true) ↔ KnowsAt value p notes x best)

-- and whether a capture gains it
abbrev pub IsOfCapture : (List ℕ → ℤ) → List ℕ → Best → Type 0
IsOfCapture value p Nothing = Unit {0}
IsOfCapture value p (ByCapture best) = Captures value p best
IsOfCapture value p (ByNotes best) = Captures value p best → ⊥

-- a board that is not settled: as `IsPlain` says of it, for its best capture
pub record IsOpenStatus (value : List ℕ → ℤ) (p : List ℕ) (notes : List Note) (t : ℕ) (best : Best) (plans far : ℕ) : Type 0 where
  pub plain : (capture : Option ℤ) × IsPlain value p notes t (plain.Open (left_of p notes) capture far)
  pub known : IsBestGain value p notes (best_gain best) plans
  pub captures : IsOfCapture value p best

-- a settled board: as `IsPlain` says of it, with the pits that serve
pub record IsSettledStatus (value : List ℕ → ℤ) (p : List ℕ) (notes : List Note) (t : ℕ) (v : ℤ) (dist plans : ℕ) : Type 0 where
  pub settled : IsPlain value p notes t (plain.Settled v dist)
  pub serve : (x : ℕ) → x < 6 → (has_pit plans x ≡ true) ↔ KnownToServe value p notes v dist x

-- what is known, once the notes came in, at the open gain t
abbrev pub IsStatus : (List ℕ → ℤ) → List ℕ → List Note → ℕ → Status → Type 0
IsStatus value p notes t (Ended gain) = IsPlain value p notes t (plain.Ended gain)
IsStatus value p notes t (Open best plans far) = IsOpenStatus value p notes t best plans far
IsStatus value p notes t (Settled v dist plans) = IsSettledStatus value p notes t v dist plans

-- The cell of p tells what these notes say of p and its plans, at the open gain t and the open wave w. The gains were opened
-- downward: no note is of a lesser one than t. Within a gain the distances were opened upward: no note of gain t is farther than w.
pub record IsTally (value : List ℕ → ℤ) (cell : Cell) (p : List ℕ) (notes : List Note) (t w : ℕ) : Type 0 where
  pub once : AreOfOtherPits notes
  pub quiet : (m : Note) → Has notes m → (q : List ℕ) × IsQuietMove p m.pit q
  pub opened : (m : Note) → Has notes m → t ≤ m.gain
  pub waved : (m : Note) → Has notes m → m.gain ≡ t → m.dist ≤ w
  pub few : cell.left < 2 ^ 6
  pub left : (x : ℕ) → x < 6 → has_pit cell.left x ≡ is_unheard p notes x
  pub status : IsStatus value p notes t cell.status
