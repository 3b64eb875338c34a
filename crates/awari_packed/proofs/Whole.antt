-- Boards as numbers, as a whole.
use Rattle.std.proofs.Common.{◌≡◌, ℕ, ◌+◌, ◌*◌, ◌^◌, ◌<◌, ◌≤◌, List, [], ◌∷◌, length, sum, get_or, take, sym, ◌∙◌, ap, subst, arith}
use Rattle.std.proofs.lemmas.List.{take_more, length-take-le}
use Rattle.std.proofs.lemmas.List.Sums.{sum_by-take-le}
use Rattle.std.proofs.Math.Nat.{pow-le-pow_right}
use Rattle.awari_board.specs.Rules.{IsBoard, IsLegal, IsMove, sown, landing, captured_stones, captured_pits, emptied, turned}
use Rattle.awari_board.proofs.Moving.{IsMove-from_steps}
use Rattle.awari_packed.specs.Packed.{packed, pits_of, IsPacking, IsPackOf}
use Rattle.awari_packed.proofs.Digits.{small-few, packed_below, packed-append, long-pits_of, pits-from_IsPackOf}

pub IsBoard-pits_of : (n : ℕ) → IsPacking n → IsBoard (pits_of n)
IsBoard-pits_of n is = record { pits = long-pits_of n; stones = omega (arith, is.few) }

pub moved_is : {now : List ℕ} (n x s strewn last left t c : ℕ) → pits_of n ≡ now → IsLegal now x → s ≡ get_or (pits_of n) x 0 → IsPackOf strewn (sown (pits_of n) x) → last ≡ landing x s → c ≡ captured_stones (pits_of strewn) last → pits_of left ≡ emptied (pits_of strewn) last (captured_pits (pits_of strewn) last) → IsPackOf t (turned (pits_of left)) → IsMove now x c (pits_of t)
moved_is {now} n x s strewn last left t c view legal held sowed landed taken emptied_is turn =
    subst (λ b. IsMove b x c (pits_of t)) view
    (IsMove-from_steps (pits_of n) x (pits_of strewn) last c (pits_of left) (pits_of t) (subst (λ b. IsLegal b x) (sym view) legal) (pits-from_IsPackOf sowed) (landed ∙ ap (landing x) held) taken emptied_is (pits-from_IsPackOf turn))

pub items_are : {a b c d e f u v w x y z : ℕ} (l : List ℕ) → length l ≡ 12 → a ≡ get_or l 0 0 → b ≡ get_or l 1 0 → c ≡ get_or l 2 0 → d ≡ get_or l 3 0 → e ≡ get_or l 4 0 → f ≡ get_or l 5 0 → u ≡ get_or l 6 0 → v ≡ get_or l 7 0 → w ≡ get_or l 8 0 → x ≡ get_or l 9 0 → y ≡ get_or l 10 0 → z ≡ get_or l 11 0 → a ∷ b ∷ c ∷ d ∷ e ∷ f ∷ u ∷ v ∷ w ∷ x ∷ y ∷ z ∷ [] ≡ l
items_are (_ ∷ _ ∷ _ ∷ _ ∷ _ ∷ _ ∷ _ ∷ _ ∷ _ ∷ _ ∷ _ ∷ _ ∷ []) long e1 e2 e3 e4 e5 e6 e7 e8 e9 e10 e11 e12 = cc
items_are _ long e1 e2 e3 e4 e5 e6 e7 e8 e9 e10 e11 e12 = absurd (omega arith)

-- ---- a board packed pit by pit

one_more : (b : List ℕ) (i : ℕ) → i < length b → packed (take (i + 1) b) ≡ packed (take i b) * 32 + get_or b i 0
unfolding packed
one_more b i here = ap packed (take_more b i 0 here) ∙ packed-append (take i b) (get_or b i 0 ∷ []) ∙ omega arith

pub packed_more : (b : List ℕ) (i v w : ℕ) → IsBoard b → i < 12 → v ≡ packed (take i b) → w ≡ get_or b i 0 → v * 32 + w ≡ packed (take (i + 1) b)
packed_more b i v w is here so_far held = omega (arith, one_more b i (omega (arith, is.pits)))

pub packed_fits : (b : List ℕ) (i v w : ℕ) → IsBoard b → sum b ≤ 24 → i < 12 → v ≡ packed (take i b) → w ≡ get_or b i 0 → v * 32 + w < 18446744073709551616
packed_fits b i v w is few here so_far held =
    let part = take (i + 1) b in
    let long : length part ≡ i + 1 = length-take-le (i + 1) b (omega (arith, is.pits)) in
    let small = small-few part (omega (arith, sum_by-take-le (λ x. x) b (i + 1))) in
    omega (arith, packed_more b i v w is here so_far held, packed_below part small, ap (λ k. 2 ^ (5 * k)) long, pow-le-pow_right {n = 2} (omega arith) {i = 5 * (i + 1)} {j = 60} (omega arith))
