-- Books: lists of levels that only grow.
use Rattle.std.specs.Prelude.{◌≡◌, ◌⊎◌, ℕ, List, ◌++◌, length, nat_lt, if◌then◌else◌}
use mathlib.Core.Option.{some}
use lib.ListN.{get_elem?}
use Rattle.awari_table.specs.declared.images.Image.{Image}

-- the book begins with the levels of this front
abbrev pub BeginsWith : List Image → List Image → Type 0
BeginsWith book front = (rest : List Image) × (book ≡ front ++ rest)

-- the book begins with what each thread knows
abbrev pub BeginsWithAll : List Image → List (List Image) → Type 0
BeginsWithAll book views = (seat : ℕ) (known : List Image) → get_elem? views seat ≡ some known → BeginsWith book known

-- the book is seen: it begins with what was known, and is known from now on
abbrev pub Sees : List Image → List Image → List Image → Type 0
Sees known book now = BeginsWith book known × (now ≡ book)

-- two books of which one begins with the other
abbrev pub AreOfOneBook : List Image → List Image → Type 0
AreOfOneBook book other = BeginsWith book other ⊎ BeginsWith other book

-- the second book where it has more levels, and else the first
abbrev pub longer_of : List Image → List Image → List Image
longer_of book other = if nat_lt (length book) (length other) then other else book
