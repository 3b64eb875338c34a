-- Ranks one after another, and faults.
use Rattle.std.proofs.Common.{◌≡◌, ℕ, ◌+◌, ◌≤◌, List, [], ◌∷◌, ◌++◌, sum, inl, inr, sym, subst, ap, ◌∙◌, arith}
use Rattle.std.proofs.lemmas.Bool.{cases_lt}
use Rattle.awari_board.specs.Rules.{IsBoard}
use Rattle.awari_table.specs.Certificate.{Table, IsRightBy}
use Rattle.awari_rank.specs.Rank.{size_of, rank_of}
use Rattle.awari_rank.proofs.Ranking.{rank_of-below, rank_fixes}
use Rattle.awari_table.specs.declared.images.Image.{Image}
use Rattle.awari_table.specs.Images.{table_of, greatest_dist}
use Rattle.awari_table.specs.Shelves.{ConsistentBy}
use Rattle.awari_verify.specs.FirstFailure.{RightBetween}
use Rattle.awari_verify.specs.VerifyFault.{IsShaped}

-- an image in which every board is right, and the limit, is consistent
pub Consistent-right : (Asked : Table → List ℕ → Type 0) (levels : List Image) (image : Image) → IsShaped levels image
    → RightBetween Asked (table_of (levels ++ image ∷ [])) image.level 0 (size_of image.level) → image.limit ≡ greatest_dist image.entries → ConsistentBy Asked levels image
Consistent-right Asked levels image shaped right limited = record {
  next = shaped.next;
  low = shaped.low;
  sized = shaped.sized;
  right = λ p board stones. right p board stones (omega arith) (omega (arith, rank_of-below p board.pits, ap size_of stones));
  limited = limited;
}

-- one rank more
pub RightBetween-more : (Asked : Table → List ℕ → Type 0) (t : Table) (level low rank : ℕ) (board : List ℕ) → IsBoard board → sum board ≡ level → rank_of board ≡ rank → RightBetween Asked t level low rank → IsRightBy Asked t board → RightBetween Asked t level low (rank + 1)
RightBetween-more Asked t level low rank board is stones ranked between right = λ p b s ge lt.
    elim (cases_lt (rank_of p) rank) [
      | inl before ↦ between p b s ge before
      | inr here ↦ subst (λ (q : List ℕ). IsRightBy Asked t q) (rank_fixes board p is.pits b.pits (stones ∙ sym s) (omega arith)) right
    ]

-- after the last rank there is none
pub RightBetween-last : (Asked : Table → List ℕ → Type 0) (t : Table) (level low rank high : ℕ) (board : List ℕ) → IsBoard board → sum board ≡ level → rank_of board ≡ rank → RightBetween Asked t level low rank → IsRightBy Asked t board
    → rank_of board + 1 ≡ size_of (sum board) → high ≤ size_of level → RightBetween Asked t level low high
RightBetween-last Asked t level low rank high board is stones ranked between right last within = λ p b s ge lt.
    RightBetween-more Asked t level low rank board is stones ranked between right p b s ge (omega (arith, ap size_of stones))
