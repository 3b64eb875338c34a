-- Tests of the six pits of a side.
use Rattle.std.proofs.Common.{◌≡◌, ◌≢◌, ℕ, zero, suc, ◌+◌, ◌<◌, Bool, true, false, List, [], ◌∷◌, count_by, refl, arith}
use Rattle.awari_board.proofs.Legal.{below_six}
use Rattle.awari_block.specs.Tally.{pits}

-- a test that fails at one more pit counts one less
pub count_by-one_less : (f g : ℕ → Bool) (x : ℕ) → x < 6 → f x ≡ true → g x ≡ false → ((y : ℕ) → y ≢ x → g y ≡ f y) → count_by f pits ≡ count_by g pits + 1
count_by-one_less f g x h = below_six (λ x. f x ≡ true → g x ≡ false → ((y : ℕ) → y ≢ x → g y ≡ f y) → count_by f pits ≡ count_by g pits + 1)
    (λ a b c. let c1 = c 1 (omega arith) in let c2 = c 2 (omega arith) in let c3 = c 3 (omega arith) in let c4 = c 4 (omega arith) in let c5 = c 5 (omega arith) in rw (a, b, c1, c2, c3, c4, c5) (omega arith))
    (λ a b c. let c0 = c 0 (omega arith) in let c2 = c 2 (omega arith) in let c3 = c 3 (omega arith) in let c4 = c 4 (omega arith) in let c5 = c 5 (omega arith) in rw (a, b, c0, c2, c3, c4, c5) (omega arith))
    (λ a b c. let c1 = c 1 (omega arith) in let c0 = c 0 (omega arith) in let c3 = c 3 (omega arith) in let c4 = c 4 (omega arith) in let c5 = c 5 (omega arith) in rw (a, b, c1, c0, c3, c4, c5) (omega arith))
    (λ a b c. let c1 = c 1 (omega arith) in let c2 = c 2 (omega arith) in let c0 = c 0 (omega arith) in let c4 = c 4 (omega arith) in let c5 = c 5 (omega arith) in rw (a, b, c1, c2, c0, c4, c5) (omega arith))
    (λ a b c. let c1 = c 1 (omega arith) in let c2 = c 2 (omega arith) in let c3 = c 3 (omega arith) in let c0 = c 0 (omega arith) in let c5 = c 5 (omega arith) in rw (a, b, c1, c2, c3, c0, c5) (omega arith))
    (λ a b c. let c1 = c 1 (omega arith) in let c2 = c 2 (omega arith) in let c3 = c 3 (omega arith) in let c4 = c 4 (omega arith) in let c0 = c 0 (omega arith) in rw (a, b, c1, c2, c3, c4, c0) (omega arith))
    x h

-- tests that agree count the same
pub count_by-same : (f g : ℕ → Bool) → ((y : ℕ) → g y ≡ f y) → (xs : List ℕ) → count_by g xs ≡ count_by f xs
count_by-same f g c [] = refl
count_by-same f g c (x ∷ xs) = let rest = count_by-same f g c xs in let here = c x in grind arith

-- where nothing is counted, the test holds nowhere
pub count_by-none : (f : ℕ → Bool) → count_by f pits ≡ 0 → (x : ℕ) → x < 6 → f x ≡ false
count_by-none f e = below_six (λ x. f x ≡ false) (grind arith) (grind arith) (grind arith) (grind arith) (grind arith) (grind arith)

-- where something is counted, the test holds somewhere
pub count_by-some : (f : ℕ → Bool) → 0 < count_by f pits → (x : ℕ) × (x < 6) × (f x ≡ true)
count_by-some f h = at (f 0) (f 1) (f 2) (f 3) (f 4) (f 5) refl refl refl refl refl refl
  where
    at : (a b c d e g : Bool) → f 0 ≡ a → f 1 ≡ b → f 2 ≡ c → f 3 ≡ d → f 4 ≡ e → f 5 ≡ g → (x : ℕ) × (x < 6) × (f x ≡ true)
    at true b c d e g ea eb ec ed ee eg = (0, omega arith, ea)
    at false true c d e g ea eb ec ed ee eg = (1, omega arith, eb)
    at false false true d e g ea eb ec ed ee eg = (2, omega arith, ec)
    at false false false true e g ea eb ec ed ee eg = (3, omega arith, ed)
    at false false false false true g ea eb ec ed ee eg = (4, omega arith, ee)
    at false false false false false true ea eb ec ed ee eg = (5, omega arith, eg)
    at false false false false false false ea eb ec ed ee eg = absurd (none h)
      where
        none : 0 < count_by f pits → ⊥
        none k = let z : count_by f pits ≡ 0 = rw (ea, eb, ec, ed, ee, eg) refl in omega (arith, z)
