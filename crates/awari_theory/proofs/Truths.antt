-- The theory, said of shelves.
use Rattle.std.proofs.Common.{◌≡◌, ℕ, ◌+◌, ◌<◌, ◌≤◌, List, length, sum, take, refl, subst, arith}
use Rattle.std.proofs.lemmas.List.{get_or-take, length-take-le}
use Rattle.awari_board.specs.Rules.{IsBoard}
use Rattle.awari_table.specs.declared.images.Entry.{Entry}
use Rattle.awari_table.specs.declared.images.Image.{Image}
use Rattle.awari_theory.specs.Older.{IsCertificate}
use Rattle.awari_table.specs.Images.{no_image, entry_of, table_of, greatest_limit}
use Rattle.awari_table.specs.Shelves.{IsShelf}
use Rattle.awari_table.proofs.CertificateLemmas.{entry_of-take, right_from_shelf}
use Rattle.awari_table.proofs.ShelfLemmas.{IsShelf-take}
use Rattle.awari_theory.specs.Secures.{Comes}
use Rattle.awari_theory.specs.Least.{IsLeastDistance}
use Rattle.awari_theory.specs.Truth.{TellsTruth}
use Rattle.awari_theory.proofs.OlderLemmas.{IsCertificate-shelf}
use Rattle.awari_theory.proofs.Keeps.{secures}
use Rattle.awari_theory.proofs.Nears.{soon}
use Rattle.awari_theory.proofs.Comes.{comes}
use Rattle.awari_theory.proofs.Worths.{value_is_worth, values_agree}
use Rattle.awari_theory.proofs.Leasts.{dist_is_least, least_unique}

-- The lowest levels of a shelf are a certificate by the table of all of them, with their own limit.
IsCertificate-front : (levels : List Image) (n : ℕ) → IsShelf levels → n ≤ length levels → IsCertificate (table_of levels) n (greatest_limit (take n levels))
IsCertificate-front levels n shelf within =
    let all = IsCertificate-shelf levels shelf in
    let front = IsCertificate-shelf (take n levels) (IsShelf-take levels n shelf) in
    let long = length-take-le n levels within in
    record {
      right = λ p board low. all.right p board (omega arith);
      limited = λ p board low.
          let limit = front.limited p board (omega arith) in
          subst (λ (e : Entry). e.dist ≤ greatest_limit (take n levels)) (entry_of-take levels n p low) limit;
    }

-- the distances of a shelf are the least
pub distance-least : (levels : List Image) → IsShelf levels → (board : List ℕ) → IsBoard board → sum board < length levels → IsLeastDistance board (entry_of levels board).dist
distance-least levels shelf board is low =
    dist_is_least (table_of levels) (length levels) _ (IsCertificate-shelf levels shelf) (λ p on below. (right_from_shelf levels shelf p on below).distances) board is low

pub distances-agree : (levels others : List Image) → IsShelf levels → IsShelf others → (board : List ℕ) → IsBoard board → sum board < length levels → sum board < length others
    → (entry_of levels board).dist ≡ (entry_of others board).dist
distances-agree levels others shelf other board is low lower =
    least_unique board _ _ (distance-least levels shelf board is low) (distance-least others other board is lower)

pub TellsTruth-shelf : (levels : List Image) → IsShelf levels → TellsTruth levels
unfolding TellsTruth
TellsTruth-shelf levels shelf board is low =
    let front = IsCertificate-front levels (sum board + 1) shelf (omega arith) in
    record {
      distance = distance-least levels shelf board is low;
      secures = secures (table_of levels) (sum board + 1) _ front board is (omega arith);
      soon = soon (table_of levels) (sum board + 1) _ front board is (omega arith);
      worth = value_is_worth (table_of levels) (sum board + 1) _ front board is (omega arith);
    }

pub Comes-shelf : (levels : List Image) → IsShelf levels → (board : List ℕ) → IsBoard board → sum board < length levels
    → Comes (table_of levels) (greatest_limit (take (sum board + 1) levels)) board
Comes-shelf levels shelf board is low =
    comes (table_of levels) (sum board + 1) _ (IsCertificate-front levels (sum board + 1) shelf (omega arith)) board is (omega arith)

pub values-agree : (levels others : List Image) → IsShelf levels → IsShelf others → (board : List ℕ) → IsBoard board → sum board < length levels → sum board < length others
    → (entry_of levels board).value ≡ (entry_of others board).value
values-agree levels others shelf other board is low lower =
    values_agree (table_of levels) (table_of others) _ _ _ _ (IsCertificate-shelf levels shelf) (IsCertificate-shelf others other) board is low lower
