-- A shelf as a table: it says its levels, and refuses no board of them.
use Rattle.std.specs.Prelude.{◌≡◌, List, length, refl}
use Rattle.std.proofs.Common.{◌∙◌, ap, sym}
use Rattle.std.specs.Borrow.{Bor}
use Rattle.awari_table.specs.declared.images.Image.{Image}
use Rattle.awari_table.specs.declared.shelves.NotYet.{NotYet}
use Rattle.awari_play.specs.Saying.{IsLasting, Saying}

abbrev pub on_shelf : Saying (Bor (List Image)) NotYet
on_shelf = record {
  levels = λ shelf. length shelf.now;
  says = λ shelf images. images ≡ shelf.now;
  keeps = λ old new. new.now ≡ old.now;
  refuses = λ shelf board fault. ⊥;
}

pub shelf_lasts : IsLasting on_shelf
shelf_lasts = record {
  itself = λ s. refl;
  on = λ first then last one two. two ∙ one;
  levels = λ old new kept. ap length kept;
  says = λ old new images kept says. says ∙ sym kept;
  said = λ old new images kept says. says ∙ kept;
  refuses = λ old new board fault kept is. is;
  all = λ s images says. ap length says;
}
