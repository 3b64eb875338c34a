-- What is known of a board: by right levels, or by what files say.
use Rattle.std.proofs.Common.{◌≡◌, ◌<◌, ◌∙◌, ℕ, Bool, true, false, List, ap, length, sum, sym}
use Rattle.awari_folder.specs.Contents.{Stands}
use Rattle.awari_answers.specs.Asked.{IsAsked}
use Rattle.awari_places.specs.Places.{Says}
use Rattle.awari_places.specs.declared.opening.Opened.{Opened}
use Rattle.awari_table.specs.Images.{greatest_limit}
use Rattle.awari_table.specs.declared.images.Image.{Image}
use Rattle.awari_boards.specs.Known.{IsKnown, IsOpened}

pub known_said : (unverified : Bool) (stands : Stands) (text board : List ℕ) (opened : Opened) (P : List Image → Type 0) → unverified ≡ true
    → IsOpened stands text board opened → sum board < opened.levels → ((images : List Image) → Says stands opened.levels images → P images) → IsKnown unverified stands text board P
known_said true stands text board opened P is framed low said = record { levels = opened; opened = framed; known = low; said = said }
known_said false stands text board opened P is framed low said = absurd cc

pub known_right : (unverified : Bool) (stands : Stands) (text board : List ℕ) (images : List Image) (P : List Image → Type 0) → unverified ≡ false
    → IsAsked stands text images board → sum board < length images → P images → IsKnown unverified stands text board P
known_right true stands text board images P is asked low holds = absurd cc
known_right false stands text board images P is asked low holds = record { images = images; asked = asked; known = low; said = holds }

-- the limit by their headers is the greatest that the files say
pub limit_said : (stands : Stands) (text board : List ℕ) (opened : Opened) (images : List Image) → IsOpened stands text board opened → Says stands opened.levels images
    → opened.limit ≡ greatest_limit images
limit_said stands text board opened images framed says = (framed.framed says.names says.known).limit ∙ ap greatest_limit (sym says.said)
