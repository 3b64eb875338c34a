-- Notes: what a board hears of the settled boards that its quiet moves lead to.
use Rattle.std.specs.Prelude.{◌≡◌, ℕ, ◌==◌, ◌⊎◌, Bool, true, false, ◌&&◌, if◌then◌else◌, max, List, [], ◌∷◌, ℤ, pos, neg_ℤ, ◌<ℤ◌, sum, int_lt}
use Rattle.std.specs.List.{list_any}
use Rattle.awari_board.specs.Rules.{IsMove}
use Rattle.awari_rank.specs.Rank.{rank_of}
use Rattle.awari_block.specs.declared.notes.Kind.{Kind}
use Rattle.awari_block.specs.declared.notes.Kind.TheVariants.{Won, Lost}
use Rattle.awari_block.specs.declared.notes.Note.{Note}

-- the move from pit x of p captures nothing and leads to q
abbrev pub IsQuietMove : List ℕ → ℕ → List ℕ → Type 0
IsQuietMove p x q = IsMove p x 0 q

-- x is among these
abbrev pub Has : {A : Type 0} → List A → A → Type 0
Has [] x = ⊥
Has (y ∷ ys) x = (x ≡ y) ⊎ Has ys x

abbrev pub is_won : Kind → Bool
is_won Won = true
is_won Lost = false

-- the kind of the notes of a settled board
abbrev pub kind_of : ℤ → Kind
kind_of score = if int_lt (pos 0) score then Won else Lost

-- what the note's move gains: the gain where the board that it leads to is lost, minus the gain where it is won
abbrev pub gain_by : Kind → ℕ → ℤ
gain_by Won gain = neg_ℤ (pos gain)
gain_by Lost gain = pos gain

-- whether there is a note of pit x, and whether there is a Won one
abbrev pub is_heard_at : List Note → ℕ → Bool
is_heard_at notes x = list_any (λ m. m.pit == x) notes

abbrev pub is_won_at : List Note → ℕ → Bool
is_won_at notes x = list_any (λ m. (m.pit == x) && is_won m.kind) notes

-- no two notes have one pit
abbrev pub AreOfOtherPits : List Note → Type 0
AreOfOtherPits [] = Unit {0}
AreOfOtherPits (m ∷ notes) = (is_heard_at notes m.pit ≡ false) × AreOfOtherPits notes

-- the greatest distance of a Won note, or 0
abbrev pub far_of : List Note → ℕ
far_of [] = 0
far_of (m ∷ notes) = if is_won m.kind then max m.dist (far_of notes) else far_of notes

-- The note that a settled board q of this value and distance gives to the board p and its pit x.
pub record IsNoteOf (q : List ℕ) (value : ℤ) (dist : ℕ) (p : List ℕ) (x : ℕ) (m : Note) : Type 0 where
  pub quiet : IsQuietMove p x q
  pub level : m.level ≡ sum p
  pub target : m.target ≡ rank_of p
  pub pit : m.pit ≡ x
  pub kind : ((m.kind ≡ Won) × (pos 0 <ℤ value)) ⊎ ((m.kind ≡ Lost) × (value <ℤ pos 0))
  pub gain : gain_by m.kind m.gain ≡ neg_ℤ value
  pub same_dist : m.dist ≡ dist
