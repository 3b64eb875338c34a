-- The pieces of a level put together.
use Rattle.std.proofs.Common.{◌≡◌, ◌⊎◌, ℕ, ◌+◌, ◌-◌, ◌*◌, ◌/◌, ◌%◌, ◌<◌, ◌≤◌, min, List, ◌++◌, sum, drop, inl, inr, sym, ◌∙◌, arith}
use Rattle.std.proofs.lemmas.Bool.{cases_lt}
use Rattle.std.proofs.lemmas.List.Sums.{sum_by-take-drop}
use Rattle.awari_board.specs.Rules.{IsBoard, own_stones}
use Rattle.awari_rank.specs.Fillings.{none}
use Rattle.awari_rank.specs.Rank.{rank_of}
use Rattle.awari_table.specs.Certificate.{Table}
use Rattle.awari_verify.specs.Pieces.{other_filling, part_of, piece_of, InTile, Looks}
use Rattle.awari_verify.specs.declared.pieces.Nearest.{Nearest}
use Rattle.awari_verify.proofs.LookLemmas.{Looks-then}
use Rattle.awari_verify.proofs.TileLemmas.{other_filled}

-- each board of a level is of one of its pieces
pub piece_inside : (p : List ℕ) (level : ℕ) → level ≤ 24 → sum p ≡ level → piece_of p < 1600
piece_inside p level low stones = omega (arith, low, stones, sum_by-take-drop (λ x. x) p 6)

pub piece_before : (piece : ℕ) (p : List ℕ) → piece_of p < piece + 1 → (piece_of p < piece) ⊎ (piece_of p ≡ piece)
piece_before piece p before = elim (cases_lt (piece_of p) piece) [ inl less ↦ inl less | inr last ↦ inr (omega (arith, before, last)) ]

-- the mixing is undone, since 9 * 57 is one more than a multiple of 64
unmixed : (tile own : ℕ) → ((tile * 9 + own * 16) % 64 + own * 48) * 57 % 64 ≡ tile % 64
unmixed tile own = omega arith

-- a board of a piece has the fillings of a level that the piece looks at
pub record IsOfPiece (piece stones : ℕ) (p : List ℕ) : Type 0 where
  pub rest : sum (drop 6 p) ≡ stones
  pub part : other_filling p / 64 % 64 ≡ part_of piece
  pub board : IsBoard (none ++ drop 6 p)
  pub level : sum (none ++ drop 6 p) ≡ stones

-- and the stones in pits 0 to 5 that the piece has
pub piece_own : (p : List ℕ) (level piece : ℕ) → level ≤ 24 → sum p ≡ level → piece_of p ≡ piece → (own_stones p ≡ piece % 25) × (own_stones p ≤ level)
piece_own p level piece low stones is =
    let parts = sum_by-take-drop (λ x. x) p 6 in
    let within : own_stones p ≤ level = omega (arith, stones, parts) in
    (omega (arith, low, within, is), within)

pub of_piece : (p : List ℕ) (level piece : ℕ) → level ≤ 24 → IsBoard p → sum p ≡ level → piece_of p ≡ piece → IsOfPiece piece (level - piece % 25) p
of_piece p level piece low is_board stones is =
    let half = other_filled p is_board in
    let own = (piece_own p level piece low stones is).0 in
    let rest : sum (drop 6 p) ≡ level - piece % 25 = omega (arith, stones, own, sum_by-take-drop (λ x. x) p 6) in
    let mixed : (other_filling p / 64 * 9 + own_stones p * 16) % 64 ≡ piece / 25 = omega (arith, is, own) in record {
      rest = rest;
      part = sym (unmixed (other_filling p / 64) (own_stones p)) ∙ (λ i. (mixed i + own i * 48) * 57 % 64);
      board = half.board;
      level = half.stones ∙ rest;
    }

-- one tile more: the next of the piece begins 4096 fillings behind it
pub piece_more : (t : Table) (level piece fillings start count step : ℕ) (first : List ℕ) (a b c : Nearest) → level ≤ 24 → start % 4096 ≡ part_of piece * 64 → sum first ≡ level - piece % 25 → rank_of first ≡ start
    → count ≡ min (fillings - start) 64 → step ≡ 4096 → ((p : List ℕ) → IsOfPiece piece (level - piece % 25) p → other_filling p < fillings) → Looks t level (λ p. (piece_of p ≡ piece) × (other_filling p < start)) a b
    → Looks t level (InTile (sum first) (rank_of first) count) b c → Looks t level (λ p. (piece_of p ≡ piece) × (other_filling p < start + step)) a c
piece_more t level piece fillings start count step first a b c low place stones ranked long far few before here =
    Looks-then t level (λ p. (piece_of p ≡ piece) × (other_filling p < start)) (InTile (sum first) (rank_of first) count) (λ p. (piece_of p ≡ piece) × (other_filling p < start + step)) a b c before here covers
  where
    covers : (p : List ℕ) → IsBoard p → sum p ≡ level → (piece_of p ≡ piece) × (other_filling p < start + step) → ((piece_of p ≡ piece) × (other_filling p < start)) ⊎ InTile (sum first) (rank_of first) count p
    covers p is_board level_stones (is, some) =
        elim (cases_lt (other_filling p) start) [
          | inl less ↦ inl (is, less)
          | inr more ↦
              let of = of_piece p level piece low is_board level_stones is in
              let part = of.part in
              let end = few p of in
              inr (of.rest ∙ sym stones, omega (arith, ranked, more), omega (arith, ranked, place, part, some, far, long, more, end))
        ]

-- none lies before the first tile
pub piece_first : (p : List ℕ) (level piece start : ℕ) → level ≤ 24 → IsBoard p → sum p ≡ level → start ≡ part_of piece * 64 → (piece_of p ≡ piece) × (other_filling p < start) → ⊥
piece_first p level piece start low board stones first here =
    let part = (of_piece p level piece low board stones here.0).part in
    let before = here.1 in
    omega (arith, part, before, first)
