-- How far the reader of a text has come, and what a call may answer there.
use Rattle.std.specs.Prelude.{◌≡◌, ◌≢◌, ◌⊎◌, ℕ, ◌+◌, List, [], ◌++◌, length, Option, Some, None, Result, Ok, Err}
use Rattle.awari_table.specs.declared.images.Image.{Image}
use Rattle.awari_table.specs.declared.faults.TableFault.{TableFault}
use Rattle.awari_table.specs.Spelling.{block, IsImage}
use Rattle.awari_table.specs.TableFault.{IsDueAt}

-- what is left of the text, how many levels were read, the number of the next line, and the refusal if there was one
pub record Place : Type 0 where
  pub rest : List ℕ
  pub next : ℕ
  pub line : ℕ
  pub refused : Option TableFault

-- an image was read
pub record TakesImage (old : Place) (image : Image) (new : Place) : Type 0 where
  pub was : old.refused ≡ None
  pub fits : IsImage old.next image
  pub parts : old.rest ≡ block image ++ new.rest
  pub next : new.next ≡ old.next + 1
  pub line : new.line ≡ old.line + 1 + length image.entries
  pub refused : new.refused ≡ None

-- nothing is left
pub record IsAtEnd (old new : Place) : Type 0 where
  pub was : old.refused ≡ None
  pub rest : old.rest ≡ []
  pub same : new ≡ old

-- a fault was met
pub record Refuses (old : Place) (fault : TableFault) (new : Place) : Type 0 where
  pub was : old.refused ≡ None
  pub some : old.rest ≢ []
  pub due : IsDueAt old.next old.line old.rest fault
  pub after : new ≡ record old { refused = Some fault }

-- a fault was met before
pub record Repeats (old : Place) (fault : TableFault) (new : Place) : Type 0 where
  pub was : old.refused ≡ Some fault
  pub same : new ≡ old

-- one call
abbrev pub Reads : Place → Result (Option Image) TableFault → Place → Type 0
Reads old (Ok (Some image)) new = TakesImage old image new
Reads old (Ok None) new = IsAtEnd old new
Reads old (Err fault) new = Refuses old fault new ⊎ Repeats old fault new
