-- The owners of a level, all together, with the notes that are on their way between them. What follows of all of them once nothing
-- is on its way is what Level.antt of `awari_heard` says.
use Rattle.std.specs.Prelude.{◌≡◌, ℕ, ◌+◌, ◌<◌, List, [], ◌++◌, length, ℤ}
use Rattle.awari_rank.specs.Rank.{size_of}
use Rattle.awari_block.specs.Part.{Part}
use Rattle.awari_block.specs.Shares.{first_rank}
use Rattle.awari_owner.specs.Sound.{OwnerSound}
use Rattle.awari_block.specs.declared.notes.Note.{Note}

-- the part has the boards of owner i, of this many, of the level of n stones
pub record IsShare (n owners i : ℕ) (part : Part) : Type 0 where
  pub level : part.level ≡ n
  pub start : part.start ≡ first_rank (size_of n) owners i
  pub end : part.start + length part.cells ≡ first_rank (size_of n) owners (i + 1)

-- one gain and distance is open in all these parts
pub record AreInStep (owners : ℕ) (part : ℕ → Part) : Type 0 where
  pub gain : (i : ℕ) → i < owners → (part i).gain ≡ (part 0).gain
  pub wave : (i : ℕ) → i < owners → (part i).wave ≡ (part 0).wave

-- no note is on its way
abbrev pub NothingComes : ℕ → (ℕ → ℕ → List Note) → Type 0
NothingComes owners coming = (i j : ℕ) → i < owners → j < owners → (i ≡ j → ⊥) → coming i j ≡ []

-- All owners are sound, with the shares of one level, and one gain and distance is open. Of each ordered pair of owners there are
-- the notes that were taken, and behind them those on their way. These together were given.
pub record AreSound (value : List ℕ → ℤ) (n owners : ℕ) (part : ℕ → Part) (coming taken : ℕ → ℕ → List Note) : Type 0 where
  pub shares : (i : ℕ) → i < owners → IsShare n owners i (part i)
  pub step : AreInStep owners part
  pub sound : (i : ℕ) → i < owners → OwnerSound value i owners (part i) (λ j. taken j i) (λ j. taken i j ++ coming i j) (coming i)
