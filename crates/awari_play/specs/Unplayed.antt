-- Why a play by a table is not told.
use Rattle.std.specs.Prelude.{ℕ, ◌<◌, ◌⊎◌, ⊤, Bool, true, false, List, Option, IfSome, sum}
use Rattle.awari_board.specs.Rules.{IsBoard, IsLegal}
use Rattle.awari_table.specs.Images.{table_of}
use Rattle.awari_table.specs.declared.images.Image.{Image}
use Rattle.awari_play.specs.Saying.{IsRefusedIn, Saying}
use Rattle.awari_play.specs.declared.lookups.Unplayed.{Unplayed}
use Rattle.awari_play.specs.declared.lookups.Unplayed.TheVariants.{Memory, Refused, Illegal}

-- the pit, if there is one, is not legal on the board
abbrev pub IsNotLegal : List ℕ → Option ℕ → Type 0
IsNotLegal p pit = IfSome pit (λ x. IsLegal p x → ⊥)

-- Some pit is legal on this board of a level that is there, and the plan that the table says of it is not.
pub record IsIllegal {S F : Type 0} (saying : Saying S F) (s : S) (board : List ℕ) : Type 0 where
  pub is_board : IsBoard board
  pub known : sum board < saying.levels s
  pub some : (pit : ℕ) × IsLegal board pit
  pub illegal : (images : List Image) → saying.says s images → IsNotLegal board ((table_of images).plan board)

-- memory ran out, or the table refuses a board, or says a plan that is not legal
abbrev pub IsUnplayed : {S F : Type 0} → Saying S F → S → Unplayed F → Type 0
IsUnplayed saying s Memory = ⊤
IsUnplayed saying s (Refused fault) = IsRefusedIn saying s fault
IsUnplayed saying s (Illegal board) = IsIllegal saying s board

-- The same of a play that is known to be one: it needs no plan.
abbrev pub IsUntold : {S F : Type 0} → Saying S F → S → Unplayed F → Type 0
IsUntold saying s Memory = ⊤
IsUntold saying s (Refused fault) = IsRefusedIn saying s fault
IsUntold saying s (Illegal board) = ⊥

-- This is a board of a level that is there, and it is not known what the table says.
pub record IsUnsaid {S F : Type 0} (saying : Saying S F) (s : S) (board : List ℕ) : Type 0 where
  pub is_board : IsBoard board
  pub known : sum board < saying.levels s
  pub unsaid : (images : List Image) → saying.says s images → ⊥

-- The same of a play in which one side holds out, by a table whose boards are judged: these are the refusals of that.
abbrev pub IsUnheld : {S F : Type 0} → Saying S F → (S → F → Type 0) → S → Unplayed F → Type 0
IsUnheld saying misjudges s Memory = ⊤
IsUnheld saying misjudges s (Refused fault) = IsRefusedIn saying s fault ⊎ misjudges s fault
IsUnheld saying misjudges s (Illegal board) = IsUnsaid saying s board

-- why the one or the other line is not told: that in which one side holds out, or that in which both follow the plans
abbrev pub IsUnlined : {S F : Type 0} → Bool → Saying S F → (S → F → Type 0) → S → Unplayed F → Type 0
IsUnlined true saying misjudges s fault = IsUnheld saying misjudges s fault
IsUnlined false saying misjudges s fault = IsUnplayed saying s fault
