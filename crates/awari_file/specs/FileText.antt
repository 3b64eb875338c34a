-- The file of a level, byte by byte. Whole numbers are big-endian: `to_be_bytes w16` makes 2 bytes of one, `to_be_bytes w32` 4,
-- and `to_be_bytes w64` 8.
use Rattle.std.specs.Prelude.{◌≡◌, ◌⊎◌, ℕ, ◌+◌, ◌*◌, ◌<◌, ◌≤◌, ◌^◌, ◌==◌, if◌then◌else◌, List, ◌∷◌, ◌++◌, length, Option, Some, None, slice_index}
use Rattle.std.specs.List.{flat_map, AllByRecursion}
use Rattle.std.specs.Int.{w8, w16, w32, w64, to_be_bytes, cast_unsigned}
use Rattle.sha2.specs.Sha256.{sha256}
use Rattle.awari_rank.specs.Rank.{size_of}
use Rattle.awari_table.specs.declared.TheConstants.{HIGHEST_LEVEL, HIGHEST_FALLING_LEVEL}
use Rattle.awari_table.specs.declared.images.Entry.{Entry}
use Rattle.awari_table.specs.declared.images.Image.{Image}
use Rattle.awari_table.specs.Spelling.{IsEntry}
use Rattle.awari_file.specs.declared.contents.Loaded.{Loaded}

-- `AWDB`, as a number of 4 bytes
abbrev pub magic_number : ℕ
magic_number = 0x41574442

-- What stands before the entries. Of its 52 bytes, 0 to 3 are the magic number, 4 and 5 the version, 6 the level, 7 is 0, 8 to
-- 15 are the number of entries, 16 to 19 the limit, and 20 to 51 the digest of the file below.
abbrev pub header_text : ℕ → ℕ → ℕ → List ℕ → List ℕ
header_text version level limit below =
    to_be_bytes w32 magic_number ++ (to_be_bytes w16 version ++ (level ∷ 0 ∷ (to_be_bytes w64 (size_of level) ++ (to_be_bytes w32 limit ++ below))))

-- a plan is its pit, or 255 for none
abbrev pub plan_byte : Option ℕ → ℕ
plan_byte None = 255
plan_byte (Some pit) = pit

-- An entry. Of its 6 bytes, 0 is the value in two's complement, 1 the plan, and 2 to 5 the distance.
abbrev pub entry_text : Entry → List ℕ
entry_text e = cast_unsigned w8 e.value ∷ plan_byte e.plan ∷ to_be_bytes w32 e.dist

-- all that stands before the digest: the entries follow the header in order of rank
abbrev pub body_text : ℕ → Image → List ℕ → List ℕ
body_text version image below = header_text version image.level image.limit below ++ flat_map entry_text image.entries

-- the file of an image over the file below, in a version: it ends in the digest of all that stands before
abbrev pub file_text : ℕ → Image → List ℕ → List ℕ
file_text version image below = body_text version image below ++ sha256 (body_text version image below)

-- how many bytes the file of a level has, those of the header, the entries and the digest, and at which that of a rank begins
abbrev pub file_len : ℕ → ℕ
file_len level = 84 + 6 * size_of level

abbrev pub entry_place : ℕ → ℕ
entry_place rank = 52 + 6 * rank

-- each is below 256
abbrev pub IsBytes : List ℕ → Type 0
IsBytes bytes = (i : ℕ) → slice_index bytes i < 256

-- the highest level that a version has: of version 1 are the tables whose distances only had to fall
abbrev pub highest_in : ℕ → ℕ
highest_in version = if version == 1 then HIGHEST_FALLING_LEVEL else HIGHEST_LEVEL

-- What has a file in a version, of which there are 1 and 2: an image of a level that the version has, with an entry for each
-- board, over a digest of 32 bytes.
pub record HasFile (version : ℕ) (image : Image) (below : List ℕ) : Type 0 where
  pub known : (version ≡ 1) ⊎ (version ≡ 2)
  pub low : image.level ≤ highest_in version
  pub limit : image.limit < 2 ^ 32
  pub whole : length below ≡ 32
  pub bytes : IsBytes below
  pub sized : length image.entries ≡ size_of image.level
  pub entries : AllByRecursion IsEntry image.entries

-- the bytes are the file of what was found in them, and end in its digest
pub record IsFileOf (bytes : List ℕ) (found : Loaded) : Type 0 where
  pub has : HasFile found.version found.image found.below
  pub text : bytes ≡ file_text found.version found.image found.below
  pub digest : found.digest ≡ sha256 (body_text found.version found.image found.below)

-- what is to be found in the file of an image
abbrev pub found_of : ℕ → Image → List ℕ → Loaded
found_of version image below = record { version = version; image = image; below = below; digest = sha256 (body_text version image below) }
