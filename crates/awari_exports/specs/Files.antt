-- What the bytes of a file say, and whether they are one.
use Rattle.std.specs.Prelude.{◌≡◌, ◌≢◌, ◌⊎◌, ◌↔◌, ℕ, ◌+◌, ◌<◌, ◌≤◌, List, [], length, sum, Err, slice_index_or}
use Rattle.awari_rank.specs.Rank.{rank_of}
use Rattle.awari_table.specs.declared.images.Entry.{Entry}
use Rattle.awari_table.specs.declared.images.Image.{Image}
use Rattle.awari_table.specs.Images.{no_entry, no_image}
use Rattle.awari_file.specs.FileFault.{number_of}
use Rattle.awari_file.specs.FileText.{HasFile, IsFileOf, file_len, file_text}
use Rattle.awari_file.specs.Reading.{file_in}
use Rattle.awari_file.specs.declared.contents.Loaded.{Loaded}
use Rattle.awari_file.specs.declared.faults.FileFault.{FileFault}
use Rattle.awari_folder.specs.NextFile.{IsOld, IsOverAnother}
use Rattle.awari_exports.specs.Told.{told_entry}
use Rattle.awari_exports.specs.declared.answers.PlainEntry.{PlainEntry}

-- what an image says of a board of its level
abbrev pub entry_in : Image → List ℕ → Entry
entry_in image board = slice_index_or image.entries (rank_of board) no_entry

-- The bytes are a level's file, of version 2, over the file that ends in `below`. They end in this digest.
pub record IsOver (below bytes digest : List ℕ) : Type 0 where
  pub loaded : Loaded
  pub file : IsFileOf bytes loaded
  pub of_version : loaded.version ≡ 2
  pub over : loaded.below ≡ below
  pub ends : digest ≡ loaded.digest

-- Why they are none, by its number: the first fault of the file, a file of version 1, or one over another file; or 84, for want of
-- memory.
abbrev pub IsUnfit : List ℕ → List ℕ → ℕ → Type 0
IsUnfit below bytes number =
    ((fault : FileFault) × (file_in bytes ≡ Err fault) × (number ≡ number_of fault))
    ⊎ (((number ≡ 86) × IsOld bytes) ⊎ (((number ≡ 80) × IsOverAnother 2 below bytes) ⊎ (number ≡ 84)))

-- There are as many bytes as the file of this level has.
abbrev pub IsSized : ℕ → List ℕ → Type 0
IsSized level bytes = length bytes ≡ file_len level

-- Why the bytes are not the file of this level, by their number alone: 20 if the file of another level has as many, and else 60 or 67 if
-- there are too few or too many.
pub record IsMisfit (level : ℕ) (bytes : List ℕ) (answer : ℕ) : Type 0 where
  pub some : answer ≢ 0
  pub other : (n : ℕ) → n ≤ 24 → IsSized n bytes → answer ≡ 20
  pub short : ((n : ℕ) → n ≤ 24 → IsSized n bytes → ⊥) → length bytes < file_len level → answer ≡ 60
  pub long : ((n : ℕ) → n ≤ 24 → IsSized n bytes → ⊥) → file_len level ≤ length bytes → answer ≡ 67

-- It is what the bytes say of the board, if they are the file of its level.
abbrev pub TellsEntry : List ℕ → List ℕ → PlainEntry → Type 0
TellsEntry bytes board told = (version : ℕ) (image : Image) (below : List ℕ) → HasFile version image below → image.level ≡ sum board
    → bytes ≡ file_text version image below → told ≡ told_entry (entry_in image board)

-- The bytes are the file of this image, which is of this level.
pub record IsFileOfLevel (level : ℕ) (bytes : List ℕ) (image : Image) : Type 0 where
  pub version : ℕ
  pub below : List ℕ
  pub has : HasFile version image below
  pub own : image.level ≡ level
  pub text : bytes ≡ file_text version image below

-- Each of the first files is that of the level at its place.
abbrev pub AreFilesOf : ℕ → List (List ℕ) → List Image → Type 0
AreFilesOf count files levels = (i : ℕ) → i < count → IsFileOfLevel i (slice_index_or files i []) (slice_index_or levels i no_image)

-- Each of the first files has as many bytes as that of its level.
abbrev pub AreSized : List (List ℕ) → ℕ → Type 0
AreSized files count = (i : ℕ) → i < count → IsSized i (slice_index_or files i [])

-- The files below this level are as long as they should be, and its own is not, for this reason.
pub record IsFirstMisfit (files : List (List ℕ)) (level answer : ℕ) : Type 0 where
  pub below : AreSized files level
  pub here : IsMisfit level (slice_index_or files level []) answer

-- The answer for a board with this many stones by these files: 0 if they are all there up to its level, each as long as it should be.
pub record IsFilesAnswer (stones : ℕ) (files : List (List ℕ)) (answer : ℕ) : Type 0 where
  pub many : 48 < stones → answer ≡ 3
  pub high : stones ≤ 48 → (24 < stones) ⊎ (length files ≤ stones) → answer ≡ 59
  pub misfit : stones ≤ 24 → stones < length files → answer ≢ 0 → (level : ℕ) × (level ≤ stones) × IsFirstMisfit files level answer
  pub sized : stones ≤ 24 → stones < length files → (answer ≡ 0) ↔ AreSized files (stones + 1)
