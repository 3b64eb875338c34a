-- The two halves of a number, and the sums to the right of each pit.
use Rattle.std.proofs.Common.{◌≡◌, ℕ, zero, suc, ◌+◌, ◌*◌, ◌/◌, ◌%◌, ◌^◌, ◌<◌, List, [], ◌∷◌, length, sum, get_or, take, drop, ◌++◌, ◌-◌, ◌≤◌, refl, sym, ◌∙◌, ap, arith, length-append, length-drop}
use Rattle.std.proofs.lemmas.List.{length-take-le, take-append-drop}
use Rattle.std.proofs.lemmas.List.Sums.{sum_by-take-drop}
use Rattle.awari_board.specs.Rules.{turned}
use Rattle.awari_board.proofs.Keeping.{sum-turned}
use Rattle.awari_packed.specs.Packed.{packed, unpacked, pits_of, IsPacking, IsPackOf, packed-pits_of}
use Rattle.awari_packed.proofs.Digits.{Small, small-few, packed_below, packed-append, unpacked-packed, long-pits_of}
use Rattle.awari_rank.proofs.Ranking.{sum-cons}

-- what the halves are
record Halves (n : ℕ) (b : List ℕ) : Type 0 where
  pub high : n / 1073741824 ≡ packed (take 6 b)
  pub low : n % 1073741824 ≡ packed (drop 6 b)
  pub long : length (turned b) ≡ 12
  pub turns : packed (turned b) ≡ packed (drop 6 b) * 1073741824 + packed (take 6 b)
  pub low_fits : packed (drop 6 b) < 1073741824
  pub high_fits : packed (take 6 b) < 1073741824

halves : (n : ℕ) → IsPacking n → Halves n (pits_of n)
halves n is =
    let b : List ℕ = pits_of n in
    let long = long-pits_of n in
    let front : length (take 6 b) ≡ 6 = length-take-le 6 b (omega arith) in
    let back : length (drop 6 b) ≡ 6 = omega (arith, length-drop 6 b) in
    let parts = sum_by-take-drop (λ x. x) b 6 in
    let whole : packed b ≡ packed (take 6 b) * 2 ^ (5 * length (drop 6 b)) + packed (drop 6 b)
    = ap packed (sym (take-append-drop 6 b)) ∙ packed-append (take 6 b) (drop 6 b)
    in
    let top_low = packed_below (drop 6 b) (small-few (drop 6 b) (omega (arith, is.few))) in
    let top_high = packed_below (take 6 b) (small-few (take 6 b) (omega (arith, is.few))) in
    let at_low = ap (λ k. 2 ^ (5 * k)) back in
    let at_high = ap (λ k. 2 ^ (5 * k)) front in
    let split : n ≡ packed (take 6 b) * 1073741824 + packed (drop 6 b)
    = sym (packed-pits_of n is.top) ∙ whole ∙ ap (λ m. packed (take 6 b) * m + packed (drop 6 b)) at_low
    in
    let fits_low : packed (drop 6 b) < 1073741824 = omega arith in
    let fits_high : packed (take 6 b) < 1073741824 = omega arith in
    record {
      high = omega arith;
      low = omega arith;
      long = omega (arith, length-append (drop 6 b) (take 6 b));
      turns = packed-append (drop 6 b) (take 6 b) ∙ ap (λ m. packed (drop 6 b) * m + packed (take 6 b)) at_high;
      low_fits = fits_low;
      high_fits = fits_high;
    }

pub turned_is : (n : ℕ) → IsPacking n → IsPackOf (n % 1073741824 * 1073741824 % 18446744073709551616 + n / 1073741824) (turned (pits_of n))
turned_is n is =
    let h = halves n is in
    record {
      long = h.long;
      few = omega (arith, sum-turned (pits_of n), is.few);
      number = omega (arith, h.high, h.low, h.low_fits, h.high_fits, h.turns);
    }

-- the own pits of one and the other pits of another
pub joined_is : (n m : ℕ) → IsPacking n → IsPacking m → sum (take 6 (pits_of n) ++ drop 6 (pits_of m)) ≤ 24 → IsPackOf (n - n % 1073741824 + m % 1073741824) (take 6 (pits_of n) ++ drop 6 (pits_of m))
joined_is n m is other few =
    let h = halves n is in
    let k = halves m other in
    let long = long-pits_of n in
    let long' = long-pits_of m in
    let front : length (take 6 (pits_of n)) ≡ 6 = length-take-le 6 (pits_of n) (omega arith) in
    let back : length (drop 6 (pits_of m)) ≡ 6 = omega (arith, length-drop 6 (pits_of m)) in
    let at_low = ap (λ j. 2 ^ (5 * j)) back in
    let whole : packed (take 6 (pits_of n) ++ drop 6 (pits_of m)) ≡ packed (take 6 (pits_of n)) * 1073741824 + packed (drop 6 (pits_of m))
    = packed-append (take 6 (pits_of n)) (drop 6 (pits_of m)) ∙ ap (λ j. packed (take 6 (pits_of n)) * j + packed (drop 6 (pits_of m))) at_low
    in
    record {
      long = omega (arith, front, back, length-append (take 6 (pits_of n)) (drop 6 (pits_of m)));
      few = few;
      number = omega (arith, whole, h.high, k.low);
    }

-- ---- the sums to the right

abbrev pub right_sums : List ℕ → List ℕ
right_sums [] = []
right_sums (x ∷ t) = sum (x ∷ t) ∷ right_sums t

pub length-right_sums : (l : List ℕ) → length (right_sums l) ≡ length l
length-right_sums [] = refl
length-right_sums (x ∷ t) = omega (arith, length-right_sums t)

pub get_or-right_sums : (l : List ℕ) (i : ℕ) → i < length l → get_or (right_sums l) i 0 ≡ sum (drop i l)
get_or-right_sums [] i here = absurd (omega arith)
get_or-right_sums (x ∷ t) zero here = refl
get_or-right_sums (x ∷ t) (suc i) here = get_or-right_sums t i (omega arith)

small-right_sums : (l : List ℕ) → sum l < 32 → Small (right_sums l)
small-right_sums [] few = tt
small-right_sums (x ∷ t) few = let all = sum-cons x t in (few, small-right_sums t (omega arith))

-- twelve ones in base 32 add up the digits
product : (a b c d e f u v w x y z : ℕ) → packed (a ∷ b ∷ c ∷ d ∷ e ∷ f ∷ u ∷ v ∷ w ∷ x ∷ y ∷ z ∷ []) * 37191016277640225 ≡ packed (a ∷ (a + b) ∷ (a + b + c) ∷ (a + b + c + d) ∷ (a + b + c + d + e) ∷ (a + b + c + d + e + f) ∷ (a + b + c + d + e + f + u) ∷ (a + b + c + d + e + f + u + v) ∷ (a + b + c + d + e + f + u + v + w) ∷ (a + b + c + d + e + f + u + v + w + x) ∷ (a + b + c + d + e + f + u + v + w + x + y) ∷ []) * 1152921504606846976 + packed (right_sums (a ∷ b ∷ c ∷ d ∷ e ∷ f ∷ u ∷ v ∷ w ∷ x ∷ y ∷ z ∷ []))
unfolding packed
product a b c d e f u v w x y z = omega arith

-- whatever lies above the twelve
record Summed (m : ℕ) (l : List ℕ) : Type 0 where
  pub above : ℕ
  pub is : m ≡ above * 1152921504606846976 + packed (right_sums l)

summed : (l : List ℕ) → length l ≡ 12 → Summed (packed l * 37191016277640225) l
summed (a ∷ b ∷ c ∷ d ∷ e ∷ f ∷ u ∷ v ∷ w ∷ x ∷ y ∷ z ∷ []) long = record { above = _; is = product a b c d e f u v w x y z }
summed _ long = absurd (omega arith)

pub sums_are : (n m : ℕ) → IsPacking n → m ≡ n * 37191016277640225 % 18446744073709551616 → pits_of m ≡ right_sums (pits_of n)
unfolding pits_of
sums_are n m is made =
    let b : List ℕ = pits_of n in
    let all = summed b (long-pits_of n) in
    let long : length (right_sums b) ≡ 12 = length-right_sums b ∙ long-pits_of n in
    let small = small-right_sums b (omega (arith, is.few)) in
    let fits = packed_below (right_sums b) small in
    let at = ap (λ k. 2 ^ (5 * k)) long in
    let whole : m ≡ all.above % 16 * 2 ^ (5 * length (right_sums b)) + packed (right_sums b)
    = omega (arith, all.is, ap (λ k. k * 37191016277640225) (packed-pits_of n is.top), ap (λ k. all.above % 16 * k) at)
    in
    ap (unpacked 12) whole
    ∙ ap (λ k. unpacked k (all.above % 16 * 2 ^ (5 * length (right_sums b)) + packed (right_sums b))) (sym long)
    ∙ unpacked-packed (right_sums b) (all.above % 16) small

pub sum_at : (n m i : ℕ) → IsPacking n → m ≡ n * 37191016277640225 % 18446744073709551616 → i < 12 → get_or (pits_of m) i 0 ≡ sum (drop i (pits_of n))
sum_at n m i is made here = ap (λ l. get_or l i 0) (sums_are n m is made) ∙ get_or-right_sums (pits_of n) i (omega (arith, long-pits_of n))
