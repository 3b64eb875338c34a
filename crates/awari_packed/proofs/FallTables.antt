-- The tables of the sowings, tested at each place by computing.
use Rattle.std.proofs.Common.{◌≡◌, ℕ, ◌<◌, Bool, true, eqb, [], get_or, map, refl}
use Rattle.std.specs.List.{range_with_len}
use Rattle.awari_board.specs.Rules.{fallen, landing}
use Rattle.awari_rank.proofs.Table.{all_below, below_all}
use Rattle.awari_packed.specs.Packed.{packed}
use Rattle.awari_packed.specs.declared.scattering.TheConstants.{SCATTERED, LAST}
use Rattle.std.proofs.lemmas.Bool.{eqb-true}

unfoldable pub at : ℕ → ℕ → ℕ
at i n = get_or (get_or SCATTERED i []) n 0

unfoldable pub last_at : ℕ → ℕ → ℕ
last_at i n = get_or (get_or LAST i []) n 0

scattered_ok : all_below (λ i. all_below (λ n. eqb (at i n) (packed (map (fallen i n) (range_with_len 0 12)))) 25) 6 ≡ true
unfolding all_below at packed
scattered_ok = refl

last_ok : all_below (λ i. all_below (λ n. eqb (last_at i n) (landing i n)) 25) 6 ≡ true
unfolding all_below last_at
last_ok = refl

pub scattered_is : (i n : ℕ) → i < 6 → n < 25 → at i n ≡ packed (map (fallen i n) (range_with_len 0 12))
scattered_is i n in_rows in_row =
    let p : ℕ → Bool = λ n. eqb (at i n) (packed (map (fallen i n) (range_with_len 0 12))) in
    let rows : ℕ → Bool = λ i. all_below (λ n. eqb (at i n) (packed (map (fallen i n) (range_with_len 0 12)))) 25 in
    eqb-true (at i n) (packed (map (fallen i n) (range_with_len 0 12))) (below_all p 25 (below_all rows 6 scattered_ok i in_rows) n in_row)

pub last_is : (i n : ℕ) → i < 6 → n < 25 → last_at i n ≡ landing i n
last_is i n in_rows in_row =
    let p : ℕ → Bool = λ n. eqb (last_at i n) (landing i n) in
    let rows : ℕ → Bool = λ i. all_below (λ n. eqb (last_at i n) (landing i n)) 25 in
    eqb-true (last_at i n) (landing i n) (below_all p 25 (below_all rows 6 last_ok i in_rows) n in_row)
