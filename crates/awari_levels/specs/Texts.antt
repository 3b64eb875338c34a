-- The command `text`: the levels in a folder as the text of tables.
use Rattle.std.specs.Prelude.{◌≡◌, ℕ, List, slice_get, Option, Some, None}
use Rattle.std.specs.Io.KnownBytes.{Appends}
use Rattle.awari_folder.specs.Contents.{Stands}
use Rattle.awari_check.specs.CheckFault.{IsShelfText}
use Rattle.awari_answers.specs.Asked.{AreLevelsTo}
use Rattle.awari_facts.specs.Loads.{HasLevel}
use Rattle.awari_table.specs.Spelling.{block, IsImage}
use Rattle.awari_table.specs.declared.TheConstants.{HIGHEST_LEVEL}
use Rattle.awari_table.specs.declared.images.Image.{Image}

-- What was written is the text of all these levels, which is what `check` says yes to; or that of the one of this number, by
-- which a reader of such a text knows it.
abbrev pub AppendsText : List Image → Option ℕ → Option (List ℕ) → Option (List ℕ) → Type 0
AppendsText images None before after = (bytes : List ℕ) × IsShelfText bytes images × Appends before after bytes
AppendsText images (Some number) before after = (image : Image) × (slice_get images number ≡ Some image) × IsImage number image × Appends before after (block image)

-- Where it is known what the writer holds, what was written is the text of all right levels that the folder stores, or of the one
-- of this number by those up to it, where it is known what its names have.
abbrev pub PrintsText : Stands → Option ℕ → Option (List ℕ) → Option (List ℕ) → Type 0
PrintsText stands None before after = (images : List Image) × AreLevelsTo HIGHEST_LEVEL stands images × AppendsText images None before after
PrintsText stands (Some number) before after = (images : List Image) × HasLevel number stands images × AppendsText images (Some number) before after
