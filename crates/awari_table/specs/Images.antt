-- Images of levels, and what they say of boards.
use Rattle.std.specs.Prelude.{◌≡◌, ℕ, ◌<◌, ◌≤◌, List, [], length, sum, pos, None, IfSome, max, fold, count_by, int_lt, All, slice_index_or}
use Rattle.std.specs.Ordering.{int_eq}
use Rattle.awari_rank.specs.Rank.{size_of, rank_of}
use Rattle.awari_table.specs.declared.TheConstants.{HIGHEST_LEVEL}
use Rattle.awari_table.specs.declared.images.Entry.{Entry}
use Rattle.awari_table.specs.declared.images.Image.{Image}
use Rattle.awari_table.specs.Certificate.{Table}

-- a plan, if there is one, is an own pit
abbrev pub HasOwnPlan : Entry → Type 0
HasOwnPlan e = IfSome e.plan (λ x. x < 6)

-- an image of a level up to the highest, with an entry for each of its boards; a yes does not use this
pub record IsLevel (image : Image) : Type 0 where
  pub low : image.level ≤ HIGHEST_LEVEL
  pub sized : length image.entries ≡ size_of image.level
  pub plans : All HasOwnPlan image.entries

-- what stands for an entry and an image that are not there
abbrev pub no_entry : Entry
no_entry = record { value = pos 0; plan = None; dist = 0 }

abbrev pub no_image : Image
no_image = record { level = 0; limit = 0; entries = [] }

-- what the levels say of a board: the entry at its rank, in the image of its stones
unfoldable pub entry_of : List Image → List ℕ → Entry
entry_of levels p = slice_index_or (slice_index_or levels (sum p) no_image).entries (rank_of p) no_entry

-- the one table of all levels
abbrev pub table_of : List Image → Table
table_of levels = record {
  value = λ p. (entry_of levels p).value;
  plan = λ p. (entry_of levels p).plan;
  dist = λ p. (entry_of levels p).dist;
}

-- the greatest distance, 0 for none
abbrev pub greatest_dist : List Entry → ℕ
greatest_dist entries = fold (λ most e. max most e.dist) 0 entries

-- the greatest limit, 0 for none
abbrev pub greatest_limit : List Image → ℕ
greatest_limit levels = fold (λ most image. max most image.limit) 0 levels

-- how many boards are won, even and lost for the mover, which a yes does not use
abbrev pub won_boards : List Entry → ℕ
won_boards entries = count_by (λ e. int_lt (pos 0) e.value) entries

abbrev pub even_boards : List Entry → ℕ
even_boards entries = count_by (λ e. int_eq e.value (pos 0)) entries

abbrev pub lost_boards : List Entry → ℕ
lost_boards entries = count_by (λ e. int_lt e.value (pos 0)) entries
