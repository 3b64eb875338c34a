-- Which boards of a part are spread, and what a part heard of the spread boards of another.
--
-- How to think of it. A settled board is fresh until its notes are given, and spread from then on. Of
-- two parts of a level, Hears says that the one heard just what the spread boards of the other say: each
-- quiet move to one of them gave its note, and there is no other note. It speaks of lists of notes and
-- not of time, so it holds between any two steps of any builder. Level.antt says it of all parts at once.
use Rattle.std.specs.Prelude.{◌≡◌, ℕ, false, List, [], ◌∷◌, length, sum, ℤ, Some}
use Rattle.awari_board.specs.Rules.{IsBoard}
use Rattle.awari_rank.specs.Rank.{rank_of}
use Rattle.awari_block.specs.Notes.{IsQuietMove, Has, IsNoteOf, is_heard_at}
use Rattle.awari_block.specs.Blocks.{times_due}
use Rattle.awari_block.specs.Part.{Part, InBlock, IsTallied, notes_for, settled_at}
use Rattle.awari_block.specs.declared.notes.Note.{Note}

-- a board of the block is spread where it is settled and not fresh
abbrev pub IsSpread : Part → ℕ → ℤ → ℕ → Type 0
IsSpread part rank v d = (settled_at part rank ≡ Some (v, d)) × (times_due part.fresh rank ≡ 0)

-- Of the moves from boards of the part to boards of the source, what was heard is of spread boards, as they are.
abbrev pub HearsTruth : Part → Part → List Note → Type 0
HearsTruth source part notes =
    (p : List ℕ) (x : ℕ) (q : List ℕ) → IsBoard p → sum p ≡ part.level → InBlock part (rank_of p) → InBlock source (rank_of q) → IsQuietMove p x q
    → (m : Note) → Has (notes_for (rank_of p) notes) m → m.pit ≡ x → (v : ℤ) × (d : ℕ) × IsSpread source (rank_of q) v d × IsNoteOf q v d p x m

-- Of the moves from boards of the part to boards of the source, those to spread boards were heard, as they are, and no others.
pub record Hears (source part : Part) (notes : List Note) : Type 0 where
  pub true_notes : HearsTruth source part notes
  pub all_notes : (p : List ℕ) (x : ℕ) (q : List ℕ) (v : ℤ) (d : ℕ) → IsBoard p → sum p ≡ part.level → InBlock part (rank_of p) → InBlock source (rank_of q) → IsQuietMove p x q
      → IsSpread source (rank_of q) v d → (m : Note) × Has (notes_for (rank_of p) notes) m × IsNoteOf q v d p x m

-- and of the moves that stay in the block
abbrev pub HearsOwn : Part → List Note → Type 0
HearsOwn part notes = Hears part part notes

-- the block is the same
pub record SameBlock (old new : Part) : Type 0 where
  pub level : new.level ≡ old.level
  pub start : new.start ≡ old.start
  pub size : length new.cells ≡ length old.cells

-- the same boards of the block are spread, in the same block
pub record IsSeenAs (old new : Part) : Type 0 where
  pub level : new.level ≡ old.level
  pub start : new.start ≡ old.start
  pub len : length new.cells ≡ length old.cells
  pub stays : (r : ℕ) (v : ℤ) (d : ℕ) → InBlock old r → IsSpread old r v d → IsSpread new r v d
  pub before : (r : ℕ) (v : ℤ) (d : ℕ) → InBlock old r → IsSpread new r v d → IsSpread old r v d

-- ---- notes that come in

-- no two notes are of one move
abbrev pub AreOfOtherMoves : List Note → Type 0
AreOfOtherMoves [] = Unit {0}
AreOfOtherMoves (m ∷ notes) = ((k : Note) → Has notes k → k.target ≡ m.target → k.pit ≡ m.pit → ⊥) × AreOfOtherMoves notes

-- the notes that were heard, once these came in, one after the other
abbrev pub with_heard : List Note → List Note → List Note
with_heard [] notes = notes
with_heard (m ∷ more) notes = with_heard more (m ∷ notes)

-- m is of a quiet move of a board of the level, and none of these notes is of that move
abbrev pub IsUnheard : ℕ → List Note → Note → Type 0
IsUnheard level notes m =
    (p : List ℕ) × (q : List ℕ) × IsBoard p × (sum p ≡ level) × (rank_of p ≡ m.target) × IsQuietMove p m.pit q × (is_heard_at (notes_for m.target notes) m.pit ≡ false)

-- so is each of these notes when its turn comes
abbrev pub AreUnheard : ℕ → List Note → List Note → Type 0
AreUnheard level [] notes = Unit {0}
AreUnheard level (m ∷ more) notes = IsUnheard level notes m × AreUnheard level more (m ∷ notes)

-- Between these two the part heard these notes, in their order, whatever it had heard before.
abbrev pub HearsNotes : List Note → Part → Part → Type 0
HearsNotes more old new =
    (value : List ℕ → ℤ) (notes : List Note) → AreUnheard old.level more notes → IsTallied value old notes → IsTallied value new (with_heard more notes)
