-- Levels built one on another, and their lines.
use Rattle.std.proofs.Common.{◌≡◌, ℕ, List, [], ◌∷◌, ◌++◌, Option, sym, ap, ◌∙◌, subst, append_assoc, append-nil}
use Rattle.std.specs.Io.KnownBytes.{Appends}
use Rattle.std.proofs.KnownBytes.{Appends-nil, Appends-trans}
use Rattle.awari_table.specs.declared.images.Image.{Image}
use Rattle.std.proofs.lemmas.Grind.{flat_map-append}
use Rattle.awari_answers.proofs.LevelLineLaws.{told_is}
use Rattle.awari_answers.specs.LevelLines.{IsToldOf, told_text, level_line, level_lines}
use Rattle.awari_answers.specs.declared.telling.LevelLine.{LevelLine}

-- the levels put on a shelf so far, and their lines
abbrev pub IsBuilt : List Image → List Image → Option (List ℕ) → Option (List ℕ) → Type 0
IsBuilt shelf now before after = (built : List Image) × (now ≡ shelf ++ built) × Appends before after (level_lines built)

level_lines-one : (images : List Image) (image : Image) → level_lines (images ++ image ∷ []) ≡ level_lines images ++ (level_line image ++ 10 ∷ [])
level_lines-one images image =
    flat_map-append (λ image. level_line image ++ 10 ∷ []) images (image ∷ []) ∙ ap (λ t. level_lines images ++ t) (append-nil (level_line image ++ 10 ∷ []))

pub built_none : (shelf : List Image) (contents : Option (List ℕ)) → IsBuilt shelf shelf contents contents
built_none shelf contents = ([], sym (append-nil shelf), Appends-nil contents)

-- one more level, and its line
pub built_line : (shelf now next : List Image) (image : Image) (before middle after : Option (List ℕ)) → IsBuilt shelf now before middle → next ≡ now ++ image ∷ []
    → Appends middle after (level_line image ++ 10 ∷ []) → IsBuilt shelf next before after
built_line shelf now next image before middle after (built, is, wrote) put written = (
  built ++ image ∷ [],
  put ∙ ap (λ xs. xs ++ image ∷ []) is ∙ append_assoc shelf built (image ∷ []),
  subst (Appends before after) (sym (level_lines-one built image)) (Appends-trans before middle after (level_lines built) (level_line image ++ 10 ∷ []) wrote written),
)

pub built_more : (shelf now next : List Image) (image : Image) (told : LevelLine) (before middle after : Option (List ℕ)) → IsBuilt shelf now before middle
    → next ≡ now ++ image ∷ [] → IsToldOf image told → Appends middle after (told_text told ++ 10 ∷ []) → IsBuilt shelf next before after
built_more shelf now next image told before middle after is put tells written =
    built_line shelf now next image before middle after is put (subst (λ t. Appends middle after (t ++ 10 ∷ [])) (told_is image told tells) written)
