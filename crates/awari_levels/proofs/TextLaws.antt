-- The text of a shelf, and of one of its levels.
use Rattle.std.proofs.Common.{◌≡◌, ℕ, ◌<◌, List, length, get_or, slice_get, Option, Some, sym, ap, ◌∙◌, subst, arith}
use Rattle.std.specs.Io.KnownBytes.{Appends}
use Rattle.std.proofs.lemmas.List.{length-take-le}
use Rattle.std.proofs.lemmas.Option.{get_or_from_slice_get, slice_get_within}
use Rattle.awari_table.specs.declared.images.Image.{Image}
use Rattle.awari_table.specs.Images.{no_image}
use Rattle.awari_table.specs.Shelves.{IsShelf}
use Rattle.awari_table.specs.Spelling.{block, IsImage}
use Rattle.awari_levels.specs.Texts.{AppendsText}

pub one_text : (images : List Image) (number : ℕ) (image : Image) (before after : Option (List ℕ)) → IsShelf images → slice_get images number ≡ Some image → IsImage image.level image
    → Appends before after (block image) → AppendsText images (Some number) before after
one_text images number image before after is found fits wrote = (image, found, subst (λ n. IsImage n image) place fits, wrote)
  where
    inside : number < length images
    inside = slice_get_within images number image found

    own : get_or images number no_image ≡ image
    own = get_or_from_slice_get images number image no_image found

    place : image.level ≡ number
    place = ap (λ m. m.level) (sym own) ∙ (is.consistent number inside).next ∙ length-take-le number images (omega (arith, inside))
