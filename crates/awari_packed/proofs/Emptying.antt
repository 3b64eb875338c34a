-- A pit of a number emptied, and a sowing.
use Rattle.std.proofs.Common.{◌≡◌, ℕ, ◌+◌, ◌*◌, ◌-◌, ◌%◌, ◌^◌, ◌<◌, ◌≤◌, List, length, sum, get_or, set, map, cond, eqb, refl, sym, ◌∙◌, ap, arith}
use Rattle.std.specs.List.{range_with_len}
use Rattle.std.proofs.lemmas.Bool.{cases_eq}
use Rattle.std.proofs.lemmas.Bool.Decides.{nat_tests}
use Rattle.std.proofs.lemmas.Grind.{common_steps, elements}
use Rattle.std.proofs.lemmas.List.{length-set}
use Rattle.std.proofs.lemmas.List.FromFn.{fill_by_all}
use Rattle.awari_board.specs.Rules.{fallen, sown}
use Rattle.awari_board.proofs.Keeping.{sum-sown}
use Rattle.awari_packed.specs.Packed.{packed, pits_of, IsPacking, IsPackOf}
use Rattle.awari_packed.proofs.Digits.{placed, long-pits_of, packed-plus}

sum-emptied : (b : List ℕ) (i : ℕ) → i < length b → sum (set b i 0) + get_or b i 0 ≡ sum b
sum-emptied b i here = grind (arith, common_steps)

pub without_fits : (n i s w : ℕ) → IsPacking n → i < 12 → s ≡ get_or (pits_of n) i 0 → w ≡ s → w * 2 ^ (55 - 5 * i) % 18446744073709551616 ≤ n
without_fits n i s w is here stones same =
    omega (arith, placed n i here is, is.top, ap (λ m. m * 2 ^ (55 - 5 * i)) (same ∙ stones))

pub without_is : (n i s w : ℕ) → IsPacking n → i < 12 → s ≡ get_or (pits_of n) i 0 → w ≡ s → IsPackOf (n - w * 2 ^ (55 - 5 * i) % 18446744073709551616) (set (pits_of n) i 0)
without_is n i s w is here stones same = record {
  long = length-set (pits_of n) i 0 ∙ long-pits_of n;
  few = omega (arith, sum-emptied (pits_of n) i (omega (arith, long-pits_of n)), is.few);
  number = omega (arith, placed n i here is, is.top, ap (λ m. m * 2 ^ (55 - 5 * i)) (same ∙ stones));
}

-- the pits that a sowing leaves, before its stones fall
emptied_is : (b : List ℕ) (x : ℕ) → length b ≡ 12 → set b x 0 ≡ map (λ i. cond (eqb i x) 0 (get_or b i 0)) (range_with_len 0 12)
emptied_is b x long =
    let each : (i : ℕ) → i < 12 → get_or (set b x 0) i 0 ≡ cond (eqb i x) 0 (get_or b i 0) = λ i here. grind (arith, elements, nat_tests, cases_eq i x) in
    fill_by_all _ (set b x 0) 12 0 (length-set b x 0 ∙ long) each

pub packed-sown : (b : List ℕ) (x : ℕ) → length b ≡ 12 → packed (sown b x) ≡ packed (set b x 0) + packed (map (fallen x (get_or b x 0)) (range_with_len 0 12))
packed-sown b x long =
    packed-plus (λ i. cond (eqb i x) 0 (get_or b i 0)) (fallen x (get_or b x 0)) 0 12
    ∙ ap (λ l. packed l + packed (map (fallen x (get_or b x 0)) (range_with_len 0 12))) (sym (emptied_is b x long))

pub sow_is : (n x s left fell : ℕ) → IsPacking n → x < 12 → s ≡ get_or (pits_of n) x 0 → IsPackOf left (set (pits_of n) x 0) → fell ≡ packed (map (fallen x s) (range_with_len 0 12)) → IsPackOf (left + fell) (sown (pits_of n) x)
sow_is n x s left fell is here stones emptied fallen_is = record {
  long = refl;
  few = omega (arith, sum-sown (pits_of n) x (long-pits_of n) here, is.few);
  number = omega (arith, emptied.number, fallen_is, ap (λ k. packed (map (fallen x k) (range_with_len 0 12))) stones, packed-sown (pits_of n) x (long-pits_of n));
}
