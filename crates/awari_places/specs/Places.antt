-- What the bytes of files say of boards, each at its place, whether that is right or not.
use Rattle.std.specs.Prelude.{◌≡◌, ◌<◌, ◌≤◌, ◌+◌, ℕ, List, length, map, slice_index_or, take, drop, Option, Some, None, Result, Ok, Err}
use Rattle.std.specs.List.{range_with_len}
use Rattle.awari_rank.specs.Rank.{size_of}
use Rattle.awari_table.specs.Images.{no_entry, no_image}
use Rattle.awari_table.specs.declared.TheConstants.{HIGHEST_LEVEL}
use Rattle.awari_table.specs.declared.images.Entry.{Entry}
use Rattle.awari_table.specs.declared.images.Image.{Image}
use Rattle.awari_file.specs.declared.contents.Header.{Header}
use Rattle.awari_file.specs.declared.faults.FileFault.{FileFault}
use Rattle.awari_file.specs.declared.faults.FileFault.TheVariants as faults
use Rattle.awari_file.specs.FileText.{entry_place}
use Rattle.awari_file.specs.Reading.{entry_of, header_at}
use Rattle.awari_folder.specs.Contents.{AreNames, Stands}

-- what was read, or what stands for an entry that is not there
abbrev pub entry_or_none : Result Entry FileFault → Entry
entry_or_none (Ok e) = e
entry_or_none (Err fault) = no_entry

-- The entry of a rank is what the six bytes at its place say.
unfoldable pub entry_in : List ℕ → ℕ → Entry
entry_in bytes rank = entry_or_none (entry_of (take 6 (drop (entry_place rank) bytes)))

-- the limit that a header says, 0 where there is none
abbrev pub limit_or_none : Result (Header × List ℕ) FileFault → ℕ
limit_or_none (Ok found) = found.0.limit
limit_or_none (Err fault) = 0

unfoldable pub limit_in : List ℕ → ℕ
limit_in bytes = limit_or_none (header_at faults.Truncated bytes)

-- what the file of a level says: the limit, and the entry of each rank; or nothing where there is no file
unfoldable pub image_in : ℕ → Option (List ℕ) → Image
image_in level None = no_image
image_in level (Some bytes) = record { level = level; limit = limit_in bytes; entries = map (entry_in bytes) (range_with_len 0 (size_of level)) }

-- what the file of a level says by its name
abbrev pub image_named : (ℕ → Option (List ℕ)) → ℕ → Image
image_named names level = image_in level (names level)

-- what the files of this many levels say, from level 0 on
unfoldable pub images_in : (ℕ → Option (List ℕ)) → ℕ → List Image
images_in names levels = map (image_named names) (range_with_len 0 levels)

-- It is known what has the names, and this many of the files say this.
pub record Says (stands : Stands) (levels : ℕ) (images : List Image) : Type 0 where
  pub names : ℕ → Option (List ℕ)
  pub known : AreNames stands names
  pub said : images ≡ images_in names levels

-- the level is one of these levels, which are no more than all
pub record IsLevelOf (levels level : ℕ) : Type 0 where
  pub known : level < levels
  pub few : levels ≤ HIGHEST_LEVEL + 1

-- Each of these levels has its number, and an entry for each of its boards; they are no more than all.
pub record AreFormed (images : List Image) : Type 0 where
  pub few : length images ≤ HIGHEST_LEVEL + 1
  pub number : (level : ℕ) → level < length images → (slice_index_or images level no_image).level ≡ level
  pub sized : (level : ℕ) → level < length images → length (slice_index_or images level no_image).entries ≡ size_of level
