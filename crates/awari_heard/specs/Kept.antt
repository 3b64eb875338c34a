-- The entries that the cells of closed parts make.
use Rattle.std.specs.Prelude.{◌≡◌, ℕ, List, [], ◌∷◌, length, pos, Option, None, slice_index_or}
use Rattle.awari_rank.specs.Rank.{size_of}
use Rattle.awari_table.specs.declared.images.Entry.{Entry}
use Rattle.awari_table.specs.declared.images.Image.{Image}
use Rattle.awari_table.specs.Images.{greatest_dist, no_entry}
use Rattle.awari_block.specs.Part.{Part, InBlock, cell_at}
use Rattle.awari_block.specs.Pits.{IsLowestIn}
use Rattle.awari_block.specs.Steps.{even_pits}
use Rattle.awari_block.specs.Tally.{Cell, Status, Ended, Open, Settled}

-- the entry has value and distance of a settled board, and 0 and 0 for any other
abbrev pub HasStatus : Status → Entry → Type 0
HasStatus (Ended gain) e = (e.value ≡ pos 0) × (e.dist ≡ 0)
HasStatus (Open best plans far) e = (e.value ≡ pos 0) × (e.dist ≡ 0)
HasStatus (Settled value dist plans) e = (e.value ≡ value) × (e.dist ≡ dist)

abbrev pub HasSettled : Cell → Entry → Type 0
HasSettled c e = HasStatus c.status e

-- The plan is the lowest of the pits that serve by what the cell heard: of a board that is not settled those that are left, and
-- those whose captures gain 0.
abbrev pub IsKeptPlan : ℕ → Status → Option ℕ → Type 0
IsKeptPlan left (Ended gain) plan = plan ≡ None
IsKeptPlan left (Open best plans far) plan = IsLowestIn (even_pits left best plans) plan
IsKeptPlan left (Settled value dist plans) plan = IsLowestIn plans plan

-- and the entry has such a plan too
abbrev pub HasKept : Cell → Entry → Type 0
HasKept c e = HasSettled c e × IsKeptPlan c.left c.status e.plan

-- the entries have of each board of these parts what its cell says by this rule
abbrev pub HaveAll : (Cell → Entry → Type 0) → List Part → List Entry → Type 0
HaveAll Has [] entries = Unit {0}
HaveAll Has (part ∷ parts) entries =
    ((rank : ℕ) → InBlock part rank → Has (cell_at part rank) (slice_index_or entries rank no_entry)) × HaveAll Has parts entries

-- The same but for its plans, which are those that the cells kept.
pub record IsKept (shelf : List Image) (parts : List Part) (image : Image) : Type 0 where
  pub level : image.level ≡ length shelf
  pub sized : length image.entries ≡ size_of (length shelf)
  pub kept : HaveAll HasKept parts image.entries
  pub limited : image.limit ≡ greatest_dist image.entries
