-- The form of level files as far as it shows in their headers and their lengths.
use Rattle.std.specs.Prelude.{◌≡◌, ◌⊎◌, ⊤, ℕ, ◌+◌, ◌<◌, ◌≤◌, ◌==◌, if◌then◌else◌, nat_lt, List, length, min, Option, Some, None, IsSomeAnd, Result, Ok, Err, IsOk}
use Rattle.awari_table.specs.Images.{greatest_limit}
use Rattle.awari_file.specs.declared.contents.Header.{Header}
use Rattle.awari_file.specs.declared.faults.FileFault.{FileFault}
use Rattle.awari_file.specs.declared.faults.FileFault.TheVariants as faults
use Rattle.awari_file.specs.FileText.{file_len}
use Rattle.awari_file.specs.Reading.{header_at}
use Rattle.awari_folder.specs.Contents.{AreNames, Stands}
use Rattle.awari_folder.specs.declared.faults.FolderFault.{FolderFault}
use Rattle.awari_folder.specs.declared.faults.FolderFault.TheVariants.{File, Open, Memory, Old, Verify}
use Rattle.awari_rank.specs.Rank.{size_of}
use Rattle.awari_table.specs.declared.TheConstants.{HIGHEST_LEVEL}
use Rattle.awari_verify.specs.declared.rules.Rule.TheVariants.{V7}
use Rattle.awari_verify.specs.declared.verdicts.VerifyFault.TheVariants.{Refused, WrongLevel}
use Rattle.awari_places.specs.declared.opening.Opened.{Opened}
use Rattle.awari_places.specs.Places.{images_in}

-- The limit that the header of a level's file says. It is 83 with 20 if the header is that of another level, and 83 with V7 if the limit
-- is above the number of the level's boards, which no distance is.
abbrev pub limit_by : ℕ → Header → Result ℕ FolderFault
limit_by level header =
    if header.level == level then (if nat_lt (size_of level) header.limit then Err (Verify level (Refused 0 V7)) else Ok header.limit)
    else Err (Verify level WrongLevel)

-- What is answered of a level's file of this many bytes by its header: the limit that it says, or the first fault. The length is judged by
-- the level that the header says.
abbrev pub framed_by : ℕ → ℕ → Result (Header × List ℕ) FileFault → Result ℕ FolderFault
framed_by level size (Err fault) = Err (File level fault)
framed_by level size (Ok found) =
    if found.0.version == 1 then Err (Old level)
    else if nat_lt size (file_len found.0.level) then Err (File level faults.Truncated)
    else if nat_lt (file_len found.0.level) size then Err (File level faults.Trailing)
    else limit_by level found.0

-- the same of its first bytes, where it has those of a header
abbrev pub framed_of : ℕ → ℕ → List ℕ → Result ℕ FolderFault
framed_of level size front = if nat_lt size 52 then Err (File level faults.Truncated) else framed_by level size (header_at faults.Truncated front)

-- and of all its bytes
abbrev pub framed_in : ℕ → List ℕ → Result ℕ FolderFault
framed_in level bytes = framed_of level (length bytes) bytes

-- No file has the level's name, or one whose header says this limit.
abbrev pub IsFrame : ℕ → Option (List ℕ) → Option ℕ → Type 0
IsFrame level name None = name ≡ None
IsFrame level name (Some limit) = IsSomeAnd name (λ bytes. framed_in level bytes ≡ Ok limit)

-- The fault of the file that has the level's name: 82 where the folder refused, 84 where memory did, and else that of its bytes.
abbrev pub IsFrameFault : ℕ → Option (List ℕ) → FolderFault → Type 0
IsFrameFault level name (Open n) = n ≡ level
IsFrameFault level name Memory = ⊤
IsFrameFault level name fault = IsSomeAnd name (λ bytes. framed_in level bytes ≡ Err fault)

-- the header and the length are those of the level's file
abbrev pub IsFramed : (ℕ → Option (List ℕ)) → ℕ → Type 0
IsFramed names level = IsSomeAnd (names level) (λ bytes. IsOk (framed_in level bytes))

-- These are the levels up to the first that has no file, or up to this one, and their greatest limit.
pub record AreFramed (most : ℕ) (names : ℕ → Option (List ℕ)) (opened : Opened) : Type 0 where
  pub each : (level : ℕ) → level < opened.levels → IsFramed names level
  pub few : opened.levels ≤ most + 1
  pub end : (names opened.levels ≡ None) ⊎ (most < opened.levels)
  pub limit : opened.limit ≡ greatest_limit (images_in names opened.levels)

-- The files below some level up to this one have the form, and that of the level has the fault.
pub record IsOpenFault (most : ℕ) (names : ℕ → Option (List ℕ)) (fault : FolderFault) : Type 0 where
  pub level : ℕ
  pub low : level ≤ most
  pub below : (n : ℕ) → n < level → IsFramed names n
  pub here : IsFrameFault level (names level) fault

-- the levels up to this one by their headers, where it is known what the names have
abbrev pub AreOpenedTo : ℕ → Stands → Opened → Type 0
AreOpenedTo most stands opened = (names : ℕ → Option (List ℕ)) → AreNames stands names → AreFramed most names opened

-- where it is known what the names have, this is the first fault of the headers up to this level's
abbrev pub IsUnopened : ℕ → Stands → FolderFault → Type 0
IsUnopened most stands fault = (names : ℕ → Option (List ℕ)) → AreNames stands names → IsOpenFault most names fault

-- how many levels the folder has up to this one, by their headers
abbrev pub CountsOpened : ℕ → Stands → ℕ → Type 0
CountsOpened level stands n = (opened : Opened) × AreOpenedTo (min level HIGHEST_LEVEL) stands opened × (n ≡ opened.levels)
