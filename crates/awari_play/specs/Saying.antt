-- A table that is asked for the entry of one board at a time, as far as contracts see.
use Rattle.std.specs.Prelude.{◌≡◌, ℕ, ◌<◌, List, length, sum}
use Rattle.awari_table.specs.declared.images.Image.{Image}

-- How many levels it has. Which levels it says, so far as that is known. What a look-up keeps of it. Which refusal is due of a board.
pub record Saying (S F : Type 0) : Type 1 where
  pub levels : S → ℕ
  pub says : S → List Image → Type 0
  pub keeps : S → S → Type 0
  pub refuses : S → List ℕ → F → Type 0

-- What a look-up keeps, all look-ups keep. A table that is kept has as many levels, says what it said and nothing else, and refuses no
-- board otherwise.
pub record IsLasting {S F : Type 0} (saying : Saying S F) : Type 0 where
  pub itself : (s : S) → saying.keeps s s
  pub on : (first then last : S) → saying.keeps first then → saying.keeps then last → saying.keeps first last
  pub levels : (old new : S) → saying.keeps old new → saying.levels new ≡ saying.levels old
  pub says : (old new : S) (images : List Image) → saying.keeps old new → saying.says old images → saying.says new images
  pub said : (old new : S) (images : List Image) → saying.keeps old new → saying.says new images → saying.says old images
  pub refuses : (old new : S) (board : List ℕ) (fault : F) → saying.keeps old new → saying.refuses new board fault → saying.refuses old board fault
  pub all : (s : S) (images : List Image) → saying.says s images → length images ≡ saying.levels s

-- A board of some level that is there is refused so.
pub record IsRefusedIn {S F : Type 0} (saying : Saying S F) (s : S) (fault : F) : Type 0 where
  pub board : List ℕ
  pub known : sum board < saying.levels s
  pub here : saying.refuses s board fault
