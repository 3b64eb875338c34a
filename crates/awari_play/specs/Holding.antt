-- Which moves take how many plies, and boards that are left by one. Private functions alone go by these: no public contract does.
use Rattle.std.specs.Prelude.{◌≡◌, ℕ, ◌≤◌, List}
use Rattle.awari_board.specs.Rules.{IsMove}
use Rattle.awari_table.specs.Certificate.{IsRight, Table, plies}
use Rattle.awari_table.specs.Images.{entry_of, table_of}
use Rattle.awari_table.specs.declared.images.Entry.{Entry}
use Rattle.awari_table.specs.declared.images.Image.{Image}

-- pit x is legal, and its move takes this many plies
abbrev pub TakesPlies : Table → List ℕ → ℕ → ℕ → Type 0
TakesPlies t p x k = (c : ℕ) × (q : List ℕ) × IsMove p x c q × (plies c (t.dist q) ≡ k)

-- The entry is the board's, which is right by the images, and its distance is not 0.
pub record IsFar (images : List Image) (p : List ℕ) (e : Entry) : Type 0 where
  pub entry : e ≡ entry_of images p
  pub right : IsRight (table_of images) p
  pub far : 1 ≤ (table_of images).dist p
