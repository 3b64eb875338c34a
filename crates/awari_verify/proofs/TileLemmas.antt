-- The boards of a tile, run by run.
use Rattle.std.proofs.Common.{◌≡◌, ◌⊎◌, ℕ, ◌+◌, ◌-◌, ◌<◌, ◌≤◌, List, ◌++◌, length, sum, take, drop, inl, inr, refl, sym, ◌∙◌, ap, arith, length-append, length-drop}
use Rattle.std.proofs.lemmas.Bool.{cases_lt}
use Rattle.std.proofs.lemmas.List.{length-take-le}
use Rattle.std.proofs.lemmas.List.Sums.{sum_by-append, sum_by-take-drop}
use Rattle.awari_board.specs.Rules.{IsBoard, own_stones, turned}
use Rattle.awari_rank.specs.Fillings.{none}
use Rattle.awari_rank.specs.Rank.{rank_of}
use Rattle.awari_table.specs.Certificate.{Table}
use Rattle.awari_verify.specs.Pieces.{own_filling, InRun, InTile, Looks}
use Rattle.awari_verify.specs.declared.pieces.Nearest.{Nearest}
use Rattle.awari_verify.proofs.FillingLemmas.{tile_run}
use Rattle.awari_verify.proofs.LookLemmas.{Looks-then}

-- six pits and six empty ones
pub record IsFilled (half : List ℕ) : Type 0 where
  pub board : IsBoard (none ++ half)
  pub stones : sum (none ++ half) ≡ sum half

filled : (half : List ℕ) → length half ≡ 6 → sum half ≤ 48 → IsFilled half
filled half long few =
    let zero : sum none ≡ 0 = refl in
    let stones : sum (none ++ half) ≡ sum half = omega (arith, zero, sum_by-append (λ x. x) none half) in record {
      board = record { pits = omega (arith, long, length-append none half); stones = omega (arith, stones, few) };
      stones = stones;
    }

pub own_filled : (p : List ℕ) → IsBoard p → IsFilled (take 6 p)
own_filled p board =
    let long = board.pits in
    let few = board.stones in
    filled (take 6 p) (length-take-le 6 p (omega (arith, long))) (omega (arith, few, sum_by-take-drop (λ x. x) p 6))

pub other_filled : (p : List ℕ) → IsBoard p → IsFilled (drop 6 p)
other_filled p board =
    let long = board.pits in
    let few = board.stones in
    filled (drop 6 p) (omega (arith, long, length-drop 6 p)) (omega (arith, few, sum_by-take-drop (λ x. x) p 6))

-- what a board has in the other pits it does not have in its own
pub own_rest : (p : List ℕ) (level others : ℕ) → sum p ≡ level → sum (drop 6 p) ≡ others → own_stones p ≡ level - others
own_rest p level others stones rest = omega (arith, stones, rest, sum_by-take-drop (λ x. x) p 6)

-- one run more
pub tile_more : (t : Table) (level count done : ℕ) (filling first run : List ℕ) (a b c : Nearest) → IsBoard filling → IsBoard first → own_stones first ≡ 0 → sum filling ≡ level - sum first → rank_of filling ≡ done
    → run ≡ take 6 (turned filling) ++ drop 6 first → Looks t level (λ p. InTile (sum first) (rank_of first) count p × (own_filling p < done)) a b → Looks t level (InRun (rank_of run) count) b c
    → Looks t level (λ p. InTile (sum first) (rank_of first) count p × (own_filling p < done + 1)) a c
tile_more t level count done filling first run a b c board board' empty stones is joined before here =
    Looks-then t level (λ p. InTile (sum first) (rank_of first) count p × (own_filling p < done)) (InRun (rank_of run) count) (λ p. InTile (sum first) (rank_of first) count p × (own_filling p < done + 1)) a b c before here covers
  where
    covers : (p : List ℕ) → IsBoard p → sum p ≡ level → InTile (sum first) (rank_of first) count p × (own_filling p < done + 1) → (InTile (sum first) (rank_of first) count p × (own_filling p < done)) ⊎ InRun (rank_of run) count p
    covers p is_board level_stones (tile, some) =
        elim (cases_lt (own_filling p) done) [
          | inl less ↦ inl (tile, less)
          | inr last ↦
              let same : own_filling p ≡ done = omega (arith, last, some) in
              let own : sum filling ≡ own_stones p = stones ∙ sym (own_rest p level (sum first) level_stones tile.0) in
              let at = tile_run p filling first count is_board.pits board.pits board'.pits empty (sym tile.0) own (is ∙ sym same) tile.1 tile.2 in
              let where_run = ap rank_of joined in
              inr (omega (arith, at.0, where_run), omega (arith, at.1, where_run))
        ]
