-- Which bytes are the text of a shelf, the first fault of those that are not, and what is printed of it.
use Rattle.std.specs.Prelude.{◌≡◌, ◌≢◌, ℕ, ◌+◌, List, [], ◌++◌, length, codes}
use Rattle.std.specs.Fmt.{decimal}
use Rattle.awari_faults.specs.Refusals.{words_text}
use Rattle.awari_table.specs.declared.images.Image.{Image}
use Rattle.awari_table.specs.Shelves.{IsShelf}
use Rattle.awari_table.specs.Spelling.{block, table_text, line_count, IsImage, AreImages}
use Rattle.awari_table.specs.TableFault.{IsDueAt, reason_of as table_reason_of}
use Rattle.awari_verify.specs.VerifyFault.{IsDue, reason_of as verify_reason_of}
use Rattle.awari_check.specs.declared.checks.CheckFault.{CheckFault}
use Rattle.awari_check.specs.declared.checks.CheckFault.TheVariants.{Table, Verify}

-- what is printed of each: the fault inside it, behind the level that is not right
abbrev pub printed_text : CheckFault → List ℕ
printed_text (Table fault) = words_text (table_reason_of fault)
printed_text (Verify level fault) = codes "level " ++ decimal level ++ codes ": " ++ words_text (verify_reason_of fault)

-- the bytes are the text of these images, each of which is consistent over those before it
pub record IsShelfText (bytes : List ℕ) (images : List Image) : Type 0 where
  pub fits : AreImages 0 images
  pub shelf : IsShelf images
  pub parts : bytes ≡ table_text images

-- The fault of the level that follows these images: one of its text; or the text is that of an image, and the image has a
-- fault of rules over them.
abbrev pub IsLevelFault : List Image → List ℕ → CheckFault → Type 0
IsLevelFault images rest (Table fault) = IsDueAt (length images) (1 + line_count images) rest fault
IsLevelFault images rest (Verify level fault) =
    (level ≡ length images) × (image : Image) × (after : List ℕ) × IsImage (length images) image × (rest ≡ block image ++ after) × IsDue images image fault

-- The first fault of the bytes: they begin with the text of a shelf, and the level that follows has the fault.
pub record IsCheckFault (bytes : List ℕ) (fault : CheckFault) : Type 0 where
  pub images : List Image
  pub rest : List ℕ
  pub fits : AreImages 0 images
  pub shelf : IsShelf images
  pub parts : bytes ≡ table_text images ++ rest
  pub some : rest ≢ []
  pub due : IsLevelFault images rest fault
