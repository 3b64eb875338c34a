-- Where the board stands that a move leaves. Private functions alone go by this: no public contract does.
use Rattle.std.specs.Prelude.{◌≡◌, ◌≤◌, ◌<◌, ℕ, List, sum}
use Rattle.awari_board.specs.Rules.{IsMove}
use Rattle.awari_rank.specs.Rank.{rank_of, size_of}
use Rattle.awari_facts.specs.declared.looks.Left.{Left}

-- the move from this pit leaves that
pub record IsLeft (board : List ℕ) (pit : ℕ) (left : Left) : Type 0 where
  pub next : List ℕ
  pub moved : IsMove board pit left.captured next
  pub stones : left.stones ≡ sum next
  pub rank : left.rank ≡ rank_of next
  pub few : left.stones ≤ sum board
  pub ranked : left.rank < size_of left.stones
