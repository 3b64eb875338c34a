-- A walk over the boards of a level, by rank. Private functions alone go by this: no public contract does.
use Rattle.std.specs.Prelude.{◌≡◌, ℕ, ◌+◌, List, ◌++◌, ◌∷◌, [], length, map, take, All, Option, Some, None, slice_get}
use Rattle.awari_facts.specs.Numbers.{IsAt}
use Rattle.awari_places.specs.Runs.{IsRunOf}
use Rattle.awari_queries.specs.Draws.{draw_of, left_after, taken}
use Rattle.awari_queries.specs.declared.draws.Draw.{Draw}
use Rattle.awari_queries.specs.declared.holding.Held.{Held}
use Rattle.awari_rank.specs.Rank.{rank_of}
use Rattle.awari_rank.specs.Tuples.{tuples}
use Rattle.awari_table.specs.declared.images.Image.{Image}
use Rattle.awari_levels.specs.Listing.{due_boards, each, farthest_of, key_if, passing, sort_key}
use Rattle.awari_levels.specs.Segments.{HasKeys}
use Rattle.awari_levels.specs.declared.walks.Choice.{Choice}
use Rattle.awari_levels.specs.declared.walks.Taken.{Taken}
use Rattle.awari_levels.specs.declared.walks.Walk.{Walk}
use Rattle.awari_levels.specs.declared.wanted.Wanted.{Wanted}

-- the farthest, and how those that are due are drawn, are those of the level
pub record IsChoice (wanted : Wanted) (images : List Image) (level : ℕ) (choice : Choice) : Type 0 where
  pub farthest : choice.farthest ≡ farthest_of wanted images level
  pub sample : choice.sample ≡ draw_of wanted.random wanted.seed (length (due_boards wanted images level))

-- of the boards below a rank, this many pass, and these are due
pub record Chosen (wanted : Wanted) (images : List Image) (level rank passed : ℕ) (boards : List (List ℕ)) : Type 0 where
  pub count : passed ≡ length (passing wanted images level (take rank (tuples 12 level)))
  pub list : boards ≡ each wanted.every 0 (passing wanted images level (take rank (tuples 12 level)))

-- each one that is due was drawn or passed over, and these are taken
pub record Drawn (wanted : Wanted) (images : List Image) (level rank passed : ℕ) (sample draw : Option Draw) (boards : List (List ℕ)) : Type 0 where
  pub due : List (List ℕ)
  pub chosen : Chosen wanted images level rank passed due
  pub left : draw ≡ left_after sample due
  pub taken : boards ≡ taken sample due

pub record Walked (wanted : Wanted) (images : List Image) (level rank : ℕ) (sample : Option Draw) (boards : List (List ℕ)) (walk : Walk) : Type 0 where
  pub drawn : Drawn wanted images level rank walk.passed sample walk.sample boards
  pub keys : HasKeys wanted images level walk.segment
  pub run : IsRunOf images level walk.run

-- the board of this rank, with its entry and what it is sorted by
pub record IsTaken (wanted : Wanted) (images : List Image) (level rank : ℕ) (board : List ℕ) (taken : Taken) : Type 0 where
  pub at : IsAt images level rank board taken.entry
  pub key : Some taken.key ≡ key_if wanted images board

-- the board of this rank is not taken, or it is
abbrev pub Steps : Wanted → List Image → ℕ → ℕ → Option Draw → List (List ℕ) → Option Taken → Walk → Type 0
Steps wanted images level rank sample boards None walk = Walked wanted images level (rank + 1) sample boards walk
Steps wanted images level rank sample boards (Some taken) walk =
    (board : List ℕ) × IsTaken wanted images level rank board taken × Walked wanted images level (rank + 1) sample (boards ++ board ∷ []) walk

-- a board, as it is held
abbrev pub held_of : Wanted → List Image → List ℕ → Held
held_of wanted images board = record { number = sort_key wanted.order images board; rank = rank_of board }

-- the board is one of the level
abbrev pub IsListed : ℕ → List ℕ → Type 0
IsListed level board = slice_get (tuples 12 level) (rank_of board) ≡ Some board

-- these boards of the level are held
pub record AreHeld (wanted : Wanted) (images : List Image) (level : ℕ) (boards : List (List ℕ)) (held : List Held) : Type 0 where
  pub each : held ≡ map (held_of wanted images) boards
  pub listed : All (IsListed level) boards
