-- What the word of a shelf on a board means.
use Rattle.std.specs.Prelude.{ℕ, ◌+◌, ◌<◌, List, length, sum, take}
use Rattle.awari_board.specs.Rules.{IsBoard}
use Rattle.awari_table.specs.declared.images.Image.{Image}
use Rattle.awari_table.specs.Images.{table_of, greatest_limit}
use Rattle.awari_theory.specs.Secures.{Secures, Soon}
use Rattle.awari_theory.specs.Least.{IsLeastDistance}
use Rattle.awari_theory.specs.Promises.{IsRightWorth}

-- What the levels say of a board is the truth. Following their plans secures the value, by every limit on plies without a
-- capture that is not below the limits of the levels up to the board's; a capture or the end of play comes soon; the value is
-- what the board is worth; and the distance is the least.
pub record TellsTruthOf (levels : List Image) (board : List ℕ) : Type 0 where
  pub secures : Secures (table_of levels) (greatest_limit (take (sum board + 1) levels)) board
  pub soon : Soon (table_of levels) board
  pub worth : IsRightWorth (table_of levels) board
  pub distance : IsLeastDistance board ((table_of levels).dist board)

-- it is of every board with fewer stones than there are levels
unfoldable pub TellsTruth : List Image → Type 0
TellsTruth levels = (board : List ℕ) → IsBoard board → sum board < length levels → TellsTruthOf levels board
