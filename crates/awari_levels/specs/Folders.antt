-- The command `verify`: what is printed of the levels in a folder.
use Rattle.std.specs.Prelude.{ℕ, List, ◌++◌, ◌∷◌, [], length, codes, Option}
use Rattle.std.specs.Fmt.{decimal}
use Rattle.std.specs.List.{flat_map}
use Rattle.std.specs.Io.KnownBytes.{Appends}
use Rattle.awari_table.specs.Shelves.{IsShelf}
use Rattle.awari_table.specs.declared.images.Image.{Image}
use Rattle.awari_answers.specs.LevelLines.{summary_text}
use Rattle.awari_levels.specs.declared.verifying.RightLevel.{RightLevel}

abbrev pub right_text : RightLevel → List ℕ
right_text right = codes "level " ++ decimal right.level ++ codes " ok limit " ++ decimal right.limit

-- the lines of right levels, each ended by a line feed
abbrev pub right_lines : List Image → List ℕ
right_lines images = flat_map (λ image. right_text (record { level = image.level; limit = image.limit }) ++ 10 ∷ []) images

-- Where it is known what the writer holds, what was written are the lines of these levels, which are right, and the line of them all.
abbrev pub PrintsStored : List Image → List ℕ → Option (List ℕ) → Option (List ℕ) → Type 0
PrintsStored images digest before after = IsShelf images
    × Appends before after (right_lines images ++ (summary_text (record { levels = length images; digest = digest }) ++ 10 ∷ []))
