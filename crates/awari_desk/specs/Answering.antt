-- Who is asked by a service, as far as contracts see.
use Rattle.std.specs.Prelude.{ℕ, Bool, List, Result}
use Rattle.awari_play.specs.declared.weighing.Weighed.{Weighed}
use Rattle.awari_table.specs.declared.images.Entry.{Entry}

-- How many levels are known. What is answered of a board, and of its moves, with the replies to them or without, from what is known
-- before to what is known then. How a refusal is told: by a line with its line feed, or by its number.
pub record Answering (S F : Type 0) : Type 1 where
  pub seen : S → ℕ
  pub entry : S → S → List ℕ → Result Entry F → Type 0
  pub moves : Bool → S → S → List ℕ → Result Weighed F → Type 0
  pub line : F → List ℕ
  pub number : F → ℕ
