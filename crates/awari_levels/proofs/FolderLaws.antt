-- The lines of the levels in a folder.
use Rattle.std.proofs.Common.{◌≡◌, ℕ, ◌+◌, ◌<◌, List, [], ◌∷◌, ◌++◌, length, get_or, take, Option, Some, sym, ap, ◌∙◌, subst, arith, append-nil, slice_get}
use Rattle.std.specs.Io.KnownBytes.{Appends}
use Rattle.std.proofs.KnownBytes.{Appends-trans}
use Rattle.std.proofs.lemmas.Grind.{flat_map-append}
use Rattle.std.proofs.lemmas.List.{take_more, length-take-le}
use Rattle.std.proofs.lemmas.Option.{get_or_from_slice_get}
use Rattle.awari_table.specs.declared.images.Image.{Image}
use Rattle.awari_table.specs.Images.{no_image}
use Rattle.awari_table.specs.Shelves.{IsShelf}
use Rattle.awari_levels.specs.Folders.{right_text, right_lines}

pub lines_more : (shelf : List Image) (i limit : ℕ) (image : Image) (before middle after : Option (List ℕ)) → IsShelf shelf → i < length shelf → slice_get shelf i ≡ Some image → limit ≡ image.limit
    → Appends before middle (right_lines (take i shelf)) → Appends middle after (right_text (record { level = i; limit = limit }) ++ 10 ∷ []) → Appends before after (right_lines (take (i + 1) shelf))
lines_more shelf i limit image before middle after is inside here named wrote written = subst (Appends before after) (sym lines) (Appends-trans before middle after (right_lines (take i shelf)) line wrote written)
  where
    line : List ℕ
    line = right_text (record { level = i; limit = limit }) ++ 10 ∷ []

    own : get_or shelf i no_image ≡ image
    own = get_or_from_slice_get shelf i image no_image here

    level : i ≡ image.level
    level = sym (ap (λ m. m.level) (sym own) ∙ (is.consistent i inside).next ∙ length-take-le i shelf (omega arith))

    one : right_lines (image ∷ []) ≡ line
    one = append-nil (right_text (record { level = image.level; limit = image.limit }) ++ 10 ∷ []) ∙ ap (λ n. right_text (record { level = n; limit = image.limit }) ++ 10 ∷ []) (sym level) ∙ ap (λ n. right_text (record { level = i; limit = n }) ++ 10 ∷ []) (sym named)

    lines : right_lines (take (i + 1) shelf) ≡ right_lines (take i shelf) ++ line
    lines =
        ap right_lines (take_more shelf i no_image inside ∙ ap (λ m. take i shelf ++ m ∷ []) own)
        ∙ flat_map-append (λ (m : Image). right_text (record { level = m.level; limit = m.limit }) ++ 10 ∷ []) (take i shelf) (image ∷ []) ∙ ap (λ t. right_lines (take i shelf) ++ t) one
