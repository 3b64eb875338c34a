-- A level in pieces. Of public contracts only those of a share go by this: what they say together names no piece.
use Rattle.std.specs.Prelude.{◌≡◌, true, false, slice_index_or, ℕ, ◌+◌, ◌*◌, ◌/◌, ◌%◌, ◌<◌, ◌≤◌, List, ◌++◌, sum, take, drop, Option, Some, None, MatchOption}
use Rattle.awari_board.specs.Rules.{IsBoard, own_stones}
use Rattle.awari_rank.specs.Fillings.{none}
use Rattle.awari_rank.specs.Rank.{rank_of, size_of}
use Rattle.awari_table.specs.Certificate.{Table, DistancesAreLeast, IsRight}
use Rattle.awari_verify.specs.FirstFailure.{IsBreach}
use Rattle.awari_verify.specs.declared.rules.Rule.{Rule}
use Rattle.awari_verify.specs.declared.pieces.Nearest.{Nearest}
use Rattle.awari_verify.specs.declared.shares.Share.{Share}
use Rattle.awari_verify.specs.declared.search.Refusal.{Refusal}

-- the refusal for the nearest breach, none while none is known
abbrev pub refusal_at : ℕ → Option Rule → Option Refusal
refusal_at rank None = None
refusal_at rank (Some rule) = Some (record { rank = rank; rule = rule })

abbrev pub refusal_of : Nearest → Option Refusal
refusal_of nearest = refusal_at nearest.rank nearest.rule

-- the board whose pits 6 to 11 are those of p, or pits 0 to 5, with the other six empty; its rank numbers the ways to fill six pits
abbrev pub other_filling : List ℕ → ℕ
other_filling p = rank_of (none ++ drop 6 p)

abbrev pub own_filling : List ℕ → ℕ
own_filling p = rank_of (none ++ take 6 p)

-- The number of a board's piece. A tile is 64 fillings of pits 6 to 11. Tiles are shared among 64 parts, and each part among 25
-- pieces by the stones in pits 0 to 5. The parts are mixed, so that pieces beside each other have boards enough and not too many.
abbrev pub piece_of : List ℕ → ℕ
piece_of p = (other_filling p / 64 * 9 + own_stones p * 16) % 64 * 25 + own_stones p

-- the part of a piece: the number of its first tile
abbrev pub part_of : ℕ → ℕ
part_of piece = (piece / 25 + piece % 25 * 48) * 57 % 64

-- the board is of a run, of a tile
abbrev pub InRun : ℕ → ℕ → List ℕ → Type 0
InRun first count p = (first ≤ rank_of p) × (rank_of p < first + count)

abbrev pub InTile : ℕ → ℕ → ℕ → List ℕ → Type 0
InTile others first count p = (sum (drop 6 p) ≡ others) × (first ≤ other_filling p) × (other_filling p < first + count)

-- the rank is the end while no breach is known, and else that of one before the end
abbrev pub IsNearestBreach : Table → ℕ → ℕ → Nearest → Type 0
IsNearestBreach t level end nearest = MatchOption nearest.rule (nearest.rank ≡ end) (λ rule. (nearest.rank < end) × IsBreach DistancesAreLeast t level nearest.rank rule)

-- the boards of the level that are in here were looked at: those before the nearest breach are right
pub record Looks (t : Table) (level : ℕ) (In : List ℕ → Type 0) (old new : Nearest) : Type 0 where
  pub nearer : new.rank ≤ old.rank
  pub known : (end : ℕ) → IsNearestBreach t level end old → IsNearestBreach t level end new
  pub right : (p : List ℕ) → IsBoard p → sum p ≡ level → In p → rank_of p < new.rank → IsRight t p

-- those pieces of the level were looked at that the share names, and this is the nearest breach in them
abbrev pub IsShare : Table → ℕ → Share → Type 0
IsShare t level share = Looks t level (λ p. slice_index_or share.seen (piece_of p) false ≡ true) (record { rank = size_of level; rule = None }) share.nearest
