-- A board that joins the lists by distance.
use Rattle.std.proofs.Common.{◌≡◌, ℕ, ℤ, zero, suc, ◌+◌, ◌-◌, List, [], ◌∷◌, ◌++◌, set, map, refl, sym, ap, subst, arith, get_or-set_same}
use Rattle.std.proofs.lemmas.List.Elements.{All-cons}
use Rattle.std.proofs.lemmas.List.Sorted.{IsPermutation-refl, IsPermutation-sym, IsPermutation-trans, IsPermutation-append_left, IsPermutation-append_right, IsPermutation-middle, All-permutation}
use Rattle.std.specs.List.Sorted.{IsPermutation}
use Rattle.awari_block.specs.Blocks.{Due, cell_in, due_rank, no_cell}
use Rattle.awari_segments.specs.ByDistance.{AreOfScore, AreSigned, IsAboveZero, IsBelowZero, listed_of}
use Rattle.awari_block.specs.FreshSets.{CanJoin, KeepFresh}
use Rattle.awari_segments.specs.Lists.{dues_from, dues_of, with_put}
use Rattle.awari_segments.specs.declared.by_distance.ByDistance.{ByDistance}
use Rattle.awari_block.specs.declared.cells.Cell.{Cell}
use Rattle.awari_block.proofs.ListParts.{All-append_first, All-append_second}

-- ---- one more in a list

pub dues_put : (n d : ℕ) (ls : List (List ℕ)) (k r : ℕ) → n ≡ d + k → IsPermutation {X = Due} ((n, r) ∷ dues_from d ls) (dues_from d (with_put ls k r))
dues_put n d [] zero r is = subst (λ (m : ℕ). IsPermutation {X = Due} ((n, r) ∷ []) ((m, r) ∷ [])) (let e : n ≡ d = omega (arith, is) in e) (IsPermutation-refl ((n, r) ∷ []))
dues_put n d [] (suc k) r is = dues_put n (suc d) [] k r (omega (arith, is))
dues_put n d (l ∷ ls) zero r is =
    subst (λ (m : ℕ). IsPermutation {X = Due} ((m, r) ∷ (map (λ x. (d, x)) l ++ dues_from (suc d) ls)) (map (λ x. (d, x)) (l ++ r ∷ []) ++ dues_from (suc d) ls)) (let e : d ≡ n = omega (arith, is) in e) (at l)
  where
    at : (l : List ℕ) → IsPermutation {X = Due} ((d, r) ∷ (map (λ x. (d, x)) l ++ dues_from (suc d) ls)) (map (λ x. (d, x)) (l ++ r ∷ []) ++ dues_from (suc d) ls)
    at l = subst (IsPermutation {X = Due} ((d, r) ∷ (map (λ x. (d, x)) l ++ dues_from (suc d) ls))) (sym (seam l)) (IsPermutation-sym _ _ (IsPermutation-middle (map (λ x. (d, x)) l) (d, r) (dues_from (suc d) ls)))
      where
        seam : (l : List ℕ) → map (λ x. (d, x)) (l ++ r ∷ []) ++ dues_from (suc d) ls ≡ map (λ x. (d, x)) l ++ (d, r) ∷ dues_from (suc d) ls
        seam [] = refl
        seam (x ∷ xs) = ap (λ fs. (d, x) ∷ fs) (seam xs)
dues_put n d (l ∷ ls) (suc k) r is =
    IsPermutation-trans _ _ _ (IsPermutation-sym _ _ (IsPermutation-middle (map (λ x. (d, x)) l) (n, r) (dues_from (suc d) ls)))
    (IsPermutation-append_right (map (λ x. (d, x)) l) _ _ (dues_put n (suc d) ls k r (omega (arith, is))))

pub put_dues : (ls after : List (List ℕ)) (dist rank : ℕ) → after ≡ with_put ls dist rank → IsPermutation {X = Due} ((dist, rank) ∷ dues_of ls) (dues_of after)
put_dues ls after dist rank is = subst (λ (xs : List (List ℕ)). IsPermutation {X = Due} ((dist, rank) ∷ dues_of ls) (dues_of xs)) (sym is) (dues_put dist 0 ls dist rank (omega arith))

-- ---- the scores of the boards in the lists

-- where other cells say the same of the fresh boards
pub signed_stays : (start : ℕ) (cells after : List Cell) (fresh : ByDistance) → KeepFresh start cells after (listed_of fresh) → AreSigned start cells fresh → AreSigned start after fresh
signed_stays start cells after fresh keep signed = record {
  lost = λ k d h. subst IsBelowZero (sym (All-append_first Same (dues_of fresh.lost) (dues_of fresh.won) keep.same k d h)) (signed.lost k d h);
  won = λ k d h. subst IsAboveZero (sym (All-append_second Same (dues_of fresh.lost) (dues_of fresh.won) keep.same k d h)) (signed.won k d h);
}
  where
    Same : Due → Type 0
    Same f = (cell_in start after (due_rank f)).score ≡ (cell_in start cells (due_rank f)).score

-- a board joins the lost ones, or the won ones
module _ (fresh : ByDistance) (rank dist : ℕ) where
  pub joins_lost : (lost : List (List ℕ)) → lost ≡ with_put fresh.lost dist rank → IsPermutation {X = Due} ((dist, rank) ∷ listed_of fresh) (dues_of lost ++ dues_of fresh.won)
  joins_lost lost is = IsPermutation-append_left (dues_of fresh.won) _ _ (put_dues fresh.lost lost dist rank is)

  pub joins_won : (won : List (List ℕ)) → won ≡ with_put fresh.won dist rank → IsPermutation {X = Due} ((dist, rank) ∷ listed_of fresh) (dues_of fresh.lost ++ dues_of won)
  joins_won won is = IsPermutation-trans _ _ _ (IsPermutation-sym _ _ (IsPermutation-middle (dues_of fresh.lost) (dist, rank) (dues_of fresh.won))) (IsPermutation-append_right (dues_of fresh.lost) _ _ (put_dues fresh.won won dist rank is))

module _ (start : ℕ) (cells : List Cell) (fresh : ByDistance) (rank : ℕ) (cell : Cell) (can : CanJoin listed_of AreSigned start cells fresh rank cell) where
  abbrev after : List Cell
  after = set cells (rank - start) cell

  still : AreSigned start after fresh
  still = signed_stays start cells after fresh can.others can.right

  one_more : (P : ℤ → Type 0) (fs fs' : List Due) → P cell.score → IsPermutation ((cell.dist, rank) ∷ fs) fs' → AreOfScore P start after fs → AreOfScore P start after fs'
  one_more P fs fs' is moved all =
      All-permutation (λ (f : Due). P (cell_in start after (due_rank f)).score) ((cell.dist, rank) ∷ fs) fs' moved
      (All-cons (λ (f : Due). P (cell_in start after (due_rank f)).score) (cell.dist, rank) fs (subst (λ (c : Cell). P c.score) (sym here) is) all)
    where
      here : cell_in start after rank ≡ cell
      here = get_or-set_same cells (rank - start) cell no_cell can.inside

  pub signed_lost : (lost : List (List ℕ)) → lost ≡ with_put fresh.lost cell.dist rank → IsBelowZero cell.score → AreSigned start after (record { lost = lost; won = fresh.won })
  signed_lost lost is below = record { lost = one_more IsBelowZero (dues_of fresh.lost) (dues_of lost) below (put_dues fresh.lost lost cell.dist rank is) still.lost; won = still.won }

  pub signed_won : (won : List (List ℕ)) → won ≡ with_put fresh.won cell.dist rank → IsAboveZero cell.score → AreSigned start after (record { lost = fresh.lost; won = won })
  signed_won won is above = record { lost = still.lost; won = one_more IsAboveZero (dues_of fresh.won) (dues_of won) above (put_dues fresh.won won cell.dist rank is) still.won }
