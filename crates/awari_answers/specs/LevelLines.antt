-- The line of a level: how many of its boards are won, even and lost, and its limit; and the line of a folder.
use Rattle.std.specs.Prelude.{◌≡◌, ℕ, ◌/◌, ◌%◌, List, ◌++◌, ◌∷◌, [], length, codes}
use Rattle.std.specs.Fmt.{decimal}
use Rattle.std.specs.List.{flat_map}
use Rattle.awari_members.specs.Members.{Named, line_text, number}
use Rattle.awari_members.specs.Json.{hex_digit}
use Rattle.awari_members.specs.declared.forms.Form.TheVariants.{Text}
use Rattle.awari_table.specs.Images.{won_boards, even_boards, lost_boards}
use Rattle.awari_table.specs.declared.images.Image.{Image}
use Rattle.awari_answers.specs.declared.telling.LevelLine.{LevelLine}
use Rattle.awari_answers.specs.declared.telling.Summary.{Summary}

-- what is told of a level
pub record IsToldOf (image : Image) (told : LevelLine) : Type 0 where
  pub level : told.level ≡ image.level
  pub boards : told.boards ≡ length image.entries
  pub won : told.counts.won ≡ won_boards image.entries
  pub even : told.counts.even ≡ even_boards image.entries
  pub lost : told.counts.lost ≡ lost_boards image.entries
  pub limit : told.limit ≡ image.limit

-- its numbers, with their names
abbrev pub level_members : LevelLine → List Named
level_members told = number (codes "level") told.level ∷ number (codes "boards") told.boards ∷ number (codes "won") told.counts.won ∷ number (codes "even") told.counts.even
    ∷ number (codes "lost") told.counts.lost ∷ number (codes "limit") told.limit ∷ []

abbrev pub told_text : LevelLine → List ℕ
told_text told = line_text Text (level_members told)

-- the line of a level
unfoldable pub level_line : Image → List ℕ
level_line image = told_text (record {
  level = image.level;
  boards = length image.entries;
  counts = record { won = won_boards image.entries; even = even_boards image.entries; lost = lost_boards image.entries };
  limit = image.limit;
})

-- the lines of levels, each ended by a line feed
abbrev pub level_lines : List Image → List ℕ
level_lines images = flat_map (λ image. level_line image ++ 10 ∷ []) images

-- the two hexadecimal digits of a byte
abbrev pub byte_text : ℕ → List ℕ
byte_text b = hex_digit (b / 16) ∷ hex_digit (b % 16) ∷ []

unfoldable pub digest_text : List ℕ → List ℕ
digest_text digest = flat_map byte_text digest

abbrev pub summary_text : Summary → List ℕ
summary_text summary = codes "levels " ++ decimal summary.levels ++ codes " digest " ++ digest_text summary.digest
