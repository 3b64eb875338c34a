-- The lines of levels.
use Rattle.std.proofs.Common.{◌≡◌, List, [], ◌∷◌, ◌++◌, refl, sym, ap, ◌∙◌, append-nil}
use Rattle.std.proofs.lemmas.Grind.{flat_map-append}
use Rattle.awari_table.specs.declared.images.Image.{Image}
use Rattle.awari_answers.specs.LevelLines.{IsToldOf, told_text, level_line, level_lines}
use Rattle.awari_answers.specs.declared.telling.LevelLine.{LevelLine}

-- what is told of a level is its line
pub told_is : (image : Image) (told : LevelLine) → IsToldOf image told → told_text told ≡ level_line image
unfolding level_line
told_is image told is = rw (is.level, is.boards, is.won, is.even, is.lost, is.limit) refl

-- one line more
pub level_lines-push : (images : List Image) (image : Image) (told : LevelLine) → IsToldOf image told → level_lines (images ++ image ∷ []) ≡ level_lines images ++ (told_text told ++ 10 ∷ [])
level_lines-push images image told tells =
    flat_map-append (λ image. level_line image ++ 10 ∷ []) images (image ∷ [])
    ∙ ap (λ t. level_lines images ++ t) (append-nil (level_line image ++ 10 ∷ []) ∙ ap (λ t. t ++ 10 ∷ []) (sym (told_is image told tells)))
