-- The command `verify`: what is wished of a folder.
use Rattle.std.specs.Prelude.{◌≡◌, ◌<◌, ◌≤◌, ◌+◌, ⊤, ℕ, List, length, map, Option, None, Some, IfSome}
use Rattle.std.specs.Borrow.{Bor}
use Rattle.core.specs.Char.{to_ascii_lowercase}
use Rattle.awari_table.specs.declared.TheConstants.{HIGHEST_LEVEL}
use Rattle.awari_table.specs.declared.images.Image.{Image}
use Rattle.awari_folder.specs.Contents.{IsStoredIn, Stands}
use Rattle.awari_levels.specs.Folders.{PrintsStored}
use Rattle.awari_answers.specs.LevelLines.{digest_text}

-- no level above this one has a file, as far as it is known what has its name
abbrev pub HasNoneAbove : ℕ → Stands → Type 0
HasNoneAbove top stands = (n : ℕ) → top < n → n ≤ HIGHEST_LEVEL → IfSome (stands n) (λ name. name ≡ None)

-- the levels 0 to this one and no file above them, if that is wished
abbrev pub AreWished : Option ℕ → Stands → List Image → Type 0
AreWished None stands images = ⊤
AreWished (Some top) stands images = (length images ≡ top + 1) × HasNoneAbove top stands

-- these are the digest's 64 hexadecimal digits, in either case, if some are wished
abbrev pub IsWished : Option (Bor (List ℕ)) → List ℕ → Type 0
IsWished None digest = ⊤
IsWished (Some digits) digest = map to_ascii_lowercase digits.now ≡ map to_ascii_lowercase (digest_text digest)

-- What was written are the lines of such levels, with such a digest. They are those that the folder stores, where it is known what its
-- names have.
abbrev pub PrintsFolder : Option ℕ → Option (Bor (List ℕ)) → Stands → Option (List ℕ) → Option (List ℕ) → Type 0
PrintsFolder levels digits stands before after = (images : List Image) × (digest : List ℕ) × IsStoredIn stands images digest
    × AreWished levels stands images × IsWished digits digest × PrintsStored images digest before after
