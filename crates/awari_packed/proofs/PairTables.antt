-- The table of the pairs: each row is the list that its rule makes.
use Rattle.std.proofs.Common.{◌≡◌, ℕ, zero, suc, ◌+◌, ◌*◌, ◌-◌, ◌/◌, ◌%◌, ◌^◌, ◌<◌, ◌≤◌, List, [], get_or, map, refl, sym, ◌∙◌, ap, arith}
use Rattle.std.specs.List.{range_with_len}
use Rattle.std.proofs.lemmas.List.FromFn.{get_or-map-range_with_len}
use Rattle.awari_rank.specs.Tuples.{fewer}
use Rattle.awari_rank.proofs.Table.{at, table_is}
use Rattle.awari_packed.specs.Packed.{pits_of}
use Rattle.awari_packed.specs.declared.pairs.TheConstants.{PAIRS}
use Rattle.awari_packed.proofs.Digits.{two_digits, get_or-pits_of}

-- rows i and j of the table of `fewer`, at the two digits of k
abbrev pub both : ℕ → ℕ → ℕ → ℕ
both i j k = at i (k / 32) + at j (k % 32)

abbrev pub last_both : ℕ → ℕ
last_both k = at 0 (k / 32 + 1) - 1 - at 0 (k % 32)

unfoldable pub row : ℕ → List ℕ
row m = get_or PAIRS m []

row_0 : row 0 ≡ map (both 9 10) (range_with_len 0 800)
unfolding row at
row_0 = refl

row_1 : row 1 ≡ map (both 7 8) (range_with_len 0 800)
unfolding row at
row_1 = refl

row_2 : row 2 ≡ map (both 5 6) (range_with_len 0 800)
unfolding row at
row_2 = refl

row_3 : row 3 ≡ map (both 3 4) (range_with_len 0 800)
unfolding row at
row_3 = refl

row_4 : row 4 ≡ map (both 1 2) (range_with_len 0 800)
unfolding row at
row_4 = refl

row_5 : row 5 ≡ map last_both (range_with_len 0 800)
unfolding row at
row_5 = refl

pair_row : (m k : ℕ) → m < 5 → k < 800 → get_or (row m) k 0 ≡ both (9 - 2 * m) (10 - 2 * m) k
pair_row zero k in_rows here = ap (λ l. get_or l k 0) row_0 ∙ get_or-map-range_with_len (both 9 10) 0 800 k k 0 here (omega arith)
pair_row (suc zero) k in_rows here = ap (λ l. get_or l k 0) row_1 ∙ get_or-map-range_with_len (both 7 8) 0 800 k k 0 here (omega arith)
pair_row (suc (suc zero)) k in_rows here = ap (λ l. get_or l k 0) row_2 ∙ get_or-map-range_with_len (both 5 6) 0 800 k k 0 here (omega arith)
pair_row (suc (suc (suc zero))) k in_rows here = ap (λ l. get_or l k 0) row_3 ∙ get_or-map-range_with_len (both 3 4) 0 800 k k 0 here (omega arith)
pair_row (suc (suc (suc (suc zero)))) k in_rows here = ap (λ l. get_or l k 0) row_4 ∙ get_or-map-range_with_len (both 1 2) 0 800 k k 0 here (omega arith)
pair_row (suc (suc (suc (suc (suc m))))) k in_rows here = absurd (omega arith)

level_row : (k : ℕ) → k < 800 → get_or (row 5) k 0 ≡ last_both k
level_row k here = ap (λ l. get_or l k 0) row_5 ∙ get_or-map-range_with_len last_both 0 800 k k 0 here (omega arith)

-- two digits are those of two pits
pub pair_digits : (s m i j : ℕ) → m < 6 → i + 2 * m ≡ 10 → j + 2 * m ≡ 11 → s / 2 ^ (10 * m) % 1024 ≡ get_or (pits_of s) i 0 * 32 + get_or (pits_of s) j 0
pair_digits s m i j in_rows at_i at_j =
    let e : 5 * (2 * m) ≡ 10 * m = omega arith in
    let e_i : 55 - 5 * i ≡ 5 * (2 * m + 1) = omega arith in
    let e_j : 55 - 5 * j ≡ 5 * (2 * m) = omega arith in
    let high : get_or (pits_of s) i 0 ≡ s / 2 ^ (5 * (2 * m + 1)) % 32 = get_or-pits_of s i (omega arith) ∙ ap (λ x. s / 2 ^ x % 32) e_i in
    let low : get_or (pits_of s) j 0 ≡ s / 2 ^ (5 * (2 * m)) % 32 = get_or-pits_of s j (omega arith) ∙ ap (λ x. s / 2 ^ x % 32) e_j in
    ap (λ x. s / 2 ^ x % 1024) (sym e) ∙ two_digits s (2 * m) ∙ ap (λ x. x * 32 + s / 2 ^ (5 * (2 * m)) % 32) (sym high) ∙ ap (λ x. get_or (pits_of s) i 0 * 32 + x) (sym low)

pub pair_fits : (s m : ℕ) → m < 6 → get_or (pits_of s) (10 - 2 * m) 0 ≤ 24 → get_or (pits_of s) (11 - 2 * m) 0 ≤ 24 → s / 2 ^ (10 * m) % 1024 < 800
pair_fits s m in_rows high low = omega (arith, pair_digits s m (10 - 2 * m) (11 - 2 * m) in_rows (omega arith) (omega arith))

-- a number of two digits
high_digit : (k h l : ℕ) → k ≡ h * 32 + l → l ≤ 24 → k / 32 ≡ h
high_digit k h l e few = omega arith

low_digit : (k h l : ℕ) → k ≡ h * 32 + l → l ≤ 24 → k % 32 ≡ l
low_digit k h l e few = omega arith

pub pair_is : (s m : ℕ) → m < 5 → get_or (pits_of s) (11 - 2 * m) 0 ≤ 24 → get_or (pits_of s) (10 - 2 * m) 0 ≤ 24 → get_or (row m) (s / 2 ^ (10 * m) % 1024) 0 ≡ fewer (2 * m + 2) (get_or (pits_of s) (10 - 2 * m) 0) + fewer (2 * m + 1) (get_or (pits_of s) (11 - 2 * m) 0)
pair_is s m in_rows low high =
    let k : ℕ = s / 2 ^ (10 * m) % 1024 in
    let h : ℕ = get_or (pits_of s) (10 - 2 * m) 0 in
    let l : ℕ = get_or (pits_of s) (11 - 2 * m) 0 in
    let e : k ≡ h * 32 + l = pair_digits s m (10 - 2 * m) (11 - 2 * m) (omega arith) (omega arith) (omega arith) in
    let left : 11 - (9 - 2 * m) ≡ 2 * m + 2 = omega arith in
    let right : 11 - (10 - 2 * m) ≡ 2 * m + 1 = omega arith in
    pair_row m k in_rows (pair_fits s m (omega arith) high low)
    ∙ ap (λ d. at (9 - 2 * m) d + at (10 - 2 * m) (k % 32)) (high_digit k h l e low)
    ∙ ap (λ d. at (9 - 2 * m) h + at (10 - 2 * m) d) (low_digit k h l e low)
    ∙ ap (λ d. d + at (10 - 2 * m) l) (table_is (9 - 2 * m) h (omega arith) (omega arith) ∙ ap (λ i. fewer i h) left)
    ∙ ap (λ d. fewer (2 * m + 2) h + d) (table_is (10 - 2 * m) l (omega arith) (omega arith) ∙ ap (λ i. fewer i l) right)

pub level_is : (s : ℕ) → get_or (pits_of s) 0 0 ≤ 24 → get_or (pits_of s) 1 0 ≤ 24 → get_or (row 5) (s / 2 ^ 50 % 1024) 0 ≡ fewer 11 (get_or (pits_of s) 0 0 + 1) - 1 - fewer 11 (get_or (pits_of s) 1 0)
level_is s high low =
    let k : ℕ = s / 2 ^ 50 % 1024 in
    let h : ℕ = get_or (pits_of s) 0 0 in
    let l : ℕ = get_or (pits_of s) 1 0 in
    let e : k ≡ h * 32 + l = pair_digits s 5 0 1 (omega arith) (omega arith) (omega arith) in
    level_row k (pair_fits s 5 (omega arith) high low)
    ∙ ap (λ d. at 0 (d + 1) - 1 - at 0 (k % 32)) (high_digit k h l e low)
    ∙ ap (λ d. at 0 (h + 1) - 1 - at 0 d) (low_digit k h l e low)
    ∙ ap (λ d. d - 1 - at 0 l) (table_is 0 (h + 1) (omega arith) (omega arith))
    ∙ ap (λ d. fewer 11 (h + 1) - 1 - d) (table_is 0 l (omega arith) (omega arith))
