-- The command `migrate`: what is printed of the levels that were brought over.
use Rattle.std.specs.Prelude.{◌≡◌, ◌⊎◌, ℕ, suc, List, ◌++◌, ◌∷◌, [], length, codes, Option}
use Rattle.std.specs.Fmt.{decimal}
use Rattle.std.specs.Io.KnownBytes.{Appends}
use Rattle.awari_folder.specs.Contents.{AreNames, Stands}
use Rattle.awari_migrate.specs.Migration.{IsFirstMigrationFault, IsMigrated}
use Rattle.awari_folder.specs.declared.faults.FolderFault.{FolderFault}
use Rattle.awari_migrate.specs.declared.migrating.Limits.{Limits}
use Rattle.awari_answers.specs.LevelLines.{summary_text}
use Rattle.awari_answers.specs.declared.telling.Summary.{Summary}
use Rattle.awari_builds.specs.declared.migrating.MigratedLevel.{MigratedLevel}

abbrev pub migrated_text : MigratedLevel → List ℕ
migrated_text migrated = codes "level " ++ decimal migrated.level ++ codes " limit " ++ decimal migrated.limits.before ++ codes " to " ++ decimal migrated.limits.after

-- the line of a level, ended by a line feed
abbrev pub migrated_line : ℕ → Limits → List ℕ
migrated_line level limits = migrated_text (record { level = level; limits = limits }) ++ 10 ∷ []

-- the lines of levels, of which the first has this number
unfoldable pub lines_from : ℕ → List Limits → List ℕ
lines_from level [] = []
lines_from level (limits ∷ rest) = migrated_line level limits ++ lines_from (suc level) rest

-- the lines of the levels from level 0 on
abbrev pub migrated_lines : List Limits → List ℕ
migrated_lines migrated = lines_from 0 migrated

-- Where it is known what the names have in both folders: the levels of the one were brought over into the other.
abbrev pub IsMigratedIn : Stands → Stands → Stands → List Limits → List ℕ → Type 0
IsMigratedIn from old new migrated digest = (names others : ℕ → Option (List ℕ)) → AreNames from names → AreNames old others → IsMigrated names others new migrated digest

-- Where it is known what the writer holds, what was written are the lines of the levels that were brought over, and the line of
-- them all.
abbrev pub PrintsMigrated : Stands → Stands → Stands
    → Option (List ℕ) → Option (List ℕ) → Type 0
PrintsMigrated from old new before after = (migrated : List Limits) × (summary : Summary) × (summary.levels ≡ length migrated)
    × IsMigratedIn from old new migrated summary.digest × Appends before after (migrated_lines migrated ++ (summary_text summary ++ 10 ∷ []))

-- Where it is known what the names have in both folders: all levels were brought over, or those below the first that is refused.
abbrev pub LeavesMigrated : Stands → Stands → Stands → Type 0
LeavesMigrated from old new = (names others : ℕ → Option (List ℕ)) → AreNames from names → AreNames old others
    → ((migrated : List Limits) × (digest : List ℕ) × IsMigrated names others new migrated digest) ⊎ ((fault : FolderFault) × IsFirstMigrationFault names others new fault)
