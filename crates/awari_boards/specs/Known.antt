-- What is known of a board: by right levels in a folder, or unverified, by what its files say.
use Rattle.std.specs.Prelude.{◌≡◌, ℕ, ◌<◌, Bool, false, true, List, length, min, sum}
use Rattle.awari_folder.specs.Contents.{Stands}
use Rattle.awari_board.specs.Rules.{IsBoard}
use Rattle.awari_board.specs.Text.{text_of}
use Rattle.awari_places.specs.Opening.{AreOpenedTo}
use Rattle.awari_places.specs.Places.{Says}
use Rattle.awari_places.specs.declared.opening.Opened.{Opened}
use Rattle.awari_table.specs.declared.TheConstants.{HIGHEST_LEVEL}
use Rattle.awari_table.specs.declared.images.Image.{Image}
use Rattle.awari_answers.specs.Asked.{IsAsked}

-- The text spells this board, and its level is among the right levels of the folder, of which this holds.
pub record IsRight (stands : Stands) (text board : List ℕ) (P : List Image → Type 0) : Type 0 where
  pub images : List Image
  pub asked : IsAsked stands text images board
  pub known : sum board < length images
  pub said : P images

-- The text spells this board. Where it is known what has the names, these are the levels up to the board's, by their headers.
pub record IsOpened (stands : Stands) (text board : List ℕ) (opened : Opened) : Type 0 where
  pub whole : IsBoard board
  pub spelled : text ≡ text_of board
  pub framed : AreOpenedTo (min (sum board) HIGHEST_LEVEL) stands opened

-- The text spells this board, and its level is there. Where it is known what has the names, this holds of what the files say. If they
-- are right, that is their shelf.
pub record IsSaid (stands : Stands) (text board : List ℕ) (P : List Image → Type 0) : Type 0 where
  pub levels : Opened
  pub opened : IsOpened stands text board levels
  pub known : sum board < levels.levels
  pub said : (images : List Image) → Says stands levels.levels images → P images

-- by right levels, or unverified
abbrev pub IsKnown : Bool → Stands → List ℕ → List ℕ → (List Image → Type 0) → Type 0
IsKnown false = IsRight
IsKnown true = IsSaid
