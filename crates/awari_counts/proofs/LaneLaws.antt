-- Sums of cells that lie in a line: of all, of a row, of a column.
use Rattle.std.proofs.Common.{◌≡◌, ℕ, zero, suc, ◌+◌, ◌*◌, ◌<◌, ◌≤◌, List, length, get_or, sum, take, refl, sym, ◌∙◌, ap, arith}
use Rattle.std.proofs.lemmas.List.{take_all}
use Rattle.std.proofs.lemmas.List.Sums.{sum_by_more}
use Rattle.awari_rank.proofs.Counting.{total-add-one, total-grows, total_same}
use Rattle.awari_rank.specs.Tuples.{total}
use Rattle.awari_counts.proofs.CellLaws.{row-within}
use Rattle.awari_counts.proofs.KeyLaws.{total-zeros}
use Rattle.awari_counts.specs.Sums.{AreLanesOf, AreSumsOf, IsLaneOf, lane_sum}

-- ---- sums of terms

-- what stands before a term, and that
pub total-next : (f : ℕ → ℕ) (j n : ℕ) → j < n → total f j + f j ≤ total f n
total-next f j n below = omega (arith, total-add-one f j, total-grows f (j + 1) n (omega (arith, below)))

total-shift : (f : ℕ → ℕ) (a n : ℕ) → total f (a + n) ≡ total f a + total (λ m. f (a + m)) n
unfolding total
total-shift f a zero =
    let same : a + 0 ≡ a = omega arith in
    ap (total f) same ∙ (omega arith)
total-shift f a (suc n) =
    let next : a + suc n ≡ suc (a + n) = omega arith in
    ap (total f) next ∙ (omega (arith, total-shift f a n))

-- row by row
pub total-rows : (f : ℕ → ℕ) (w n : ℕ) → total f (n * w) ≡ total (λ i. total (λ j. f (i * w + j)) w) n
unfolding total
total-rows f w zero = ap (total f) (let none : 0 * w ≡ 0 = omega arith in none)
total-rows f w (suc n) =
    let next : suc n * w ≡ n * w + w = omega arith in
    ap (total f) next ∙ (omega (arith, total-shift f (n * w) w, total-rows f w n))

-- one of each row
pub column-few : (f : ℕ → ℕ) (w j n : ℕ) → j < w → total (λ i. f (j + i * w)) n ≤ total f (n * w)
unfolding total
column-few f w j zero inside = omega arith
column-few f w j (suc n) inside =
    let next : suc n * w ≡ n * w + w = omega arith in
    let same : j + n * w ≡ n * w + j = omega arith in
    omega (arith, ap (total f) next, ap f same, total-shift f (n * w) w, total-next (λ m. f (n * w + m)) j w inside, column-few f w j n inside)

-- some successive ones
pub part-few : (f : ℕ → ℕ) (a n all : ℕ) → a + n ≤ all → total (λ m. f (a + m)) n ≤ total f all
part-few f a n all inside = omega (arith, total-shift f a n, total-grows f (a + n) all inside)

-- ---- those of a list

sum-total : (xs : List ℕ) (n : ℕ) → n ≤ length xs → sum (take n xs) ≡ total (λ k. get_or xs k 0) n
unfolding total
sum-total xs zero inside = refl
sum-total xs (suc n) inside =
    let next : suc n ≡ n + 1 = omega arith in
    ap (λ m. sum (take m xs)) next ∙ (omega (arith, sum_by_more (λ x. x) xs n 0 (omega (arith, inside)), sum-total xs n (omega (arith, inside))))

pub list-total : (xs : List ℕ) (n : ℕ) → n ≡ length xs → sum xs ≡ total (λ k. get_or xs k 0) n
list-total xs n is = ap sum (sym (take_all n xs (omega (arith, is)))) ∙ sum-total xs n (omega (arith, is))

pub sum-zeros : (xs : List ℕ) → ((k : ℕ) → get_or xs k 0 ≡ 0) → sum xs ≡ 0
sum-zeros xs zeros = list-total xs (length xs) refl ∙ total-zeros (λ k. get_or xs k 0) (length xs) (λ k below. zeros k)

-- ---- lanes

-- some successive cells
part_same : (xs : List ℕ) (a n : ℕ) → total (λ k. get_or xs (a + k * 1) 0) n ≡ total (λ k. get_or xs (a + k) 0) n
part_same xs a n = total_same (λ k. get_or xs (a + k * 1) 0) (λ k. get_or xs (a + k) 0) n (λ k below. let same : a + k * 1 ≡ a + k = omega arith in ap (λ i. get_or xs i 0) same)

pub part-lane : (xs : List ℕ) (a n : ℕ) → a + n ≤ length xs → sum xs ≤ 4294967295 → IsLaneOf xs (record { first = a; step = 1; cells = n })
part-lane xs a n inside few = record {
  inside = λ k below. omega (arith, inside, below);
  few = omega (arith, few, part_same xs a n, part-few (λ k. get_or xs k 0) a n (length xs) inside, list-total xs (length xs) refl);
}

pub part-sum : (xs : List ℕ) (a n boards : ℕ) → boards ≡ lane_sum xs (record { first = a; step = 1; cells = n }) → boards ≡ total (λ k. get_or xs (a + k) 0) n
part-sum xs a n boards is = is ∙ part_same xs a n

pub front-sum : (xs : List ℕ) (n boards : ℕ) → boards ≡ lane_sum xs (record { first = 0; step = 1; cells = n }) → boards ≡ total (λ k. get_or xs k 0) n
front-sum xs n boards is = is ∙ total_same (λ k. get_or xs (0 + k * 1) 0) (λ k. get_or xs k 0) n (λ k below. let same : 0 + k * 1 ≡ k = omega arith in ap (λ i. get_or xs i 0) same)

-- each row, and each column
pub rows-lanes : (xs : List ℕ) (rows w : ℕ) → length xs ≡ rows * w → 0 < w → sum xs ≤ 4294967295 → AreLanesOf xs (record { many = rows; apart = w; step = 1; cells = w })
rows-lanes xs rows w long some few = record {
  some = some;
  each = λ i inside. part-lane xs (i * w) w (omega (arith, long, row-within rows w i inside)) few;
}

pub columns-lanes : (xs : List ℕ) (rows w : ℕ) → length xs ≡ rows * w → 0 < rows → sum xs ≤ 4294967295 → AreLanesOf xs (record { many = w; apart = 1; step = w; cells = rows })
columns-lanes xs rows w long some few = record {
  some = some;
  each = λ j inside. record {
    inside = λ i below. omega (arith, long, row-within rows w i below, inside);
    few = omega (arith, few, column-few (λ k. get_or xs k 0) w (j * 1) rows (omega (arith, inside)), list-total xs (rows * w) (sym long));
  };
}

-- the sums of all rows have the sum of all cells
pub sums-all : (xs sums : List ℕ) (rows w : ℕ) → length xs ≡ rows * w → AreSumsOf xs (record { many = rows; apart = w; step = 1; cells = w }) sums → sum sums ≡ sum xs
sums-all xs sums rows w long are =
    list-total sums rows (sym are.long)
    ∙ total_same (λ i. get_or sums i 0) (λ i. total (λ j. get_or xs (i * w + j) 0) w) rows (λ i below. are.each i below ∙ part_same xs (i * w) w)
    ∙ sym (total-rows (λ k. get_or xs k 0) w rows) ∙ sym (list-total xs (rows * w) (sym long))

pub few_as : (xs sums read : List ℕ) (rows w : ℕ) → length xs ≡ rows * w → AreSumsOf xs (record { many = rows; apart = w; step = 1; cells = w }) sums → read ≡ sums → sum xs ≤ 4294967295 → sum read ≤ 4294967295
few_as xs sums read rows w long are same few = omega (arith, ap sum same, sums-all xs sums rows w long are, few)

-- a table of all values and of the distances up to a limit
pub table-long : (xs : List ℕ) (limit rows w : ℕ) → length xs ≡ 256 * (limit + 1) → rows ≡ 256 → w ≡ limit + 1 → length xs ≡ rows * w
table-long xs limit rows w long all up = long ∙ ap (λ r. r * (limit + 1)) (sym all) ∙ ap (λ n. rows * n) (sym up)
