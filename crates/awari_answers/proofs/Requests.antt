-- Requests that are cut.
use Rattle.std.proofs.Common.{◌≡◌, ◌∙◌, ℕ, zero, suc, ◌+◌, ◌<◌, ◌≤◌, ◌==◌, ◌⊎◌, false, min, List, [], ◌∷◌, ◌++◌, length, take, codes, refl, ap, sym, append_assoc, inl, inr, take_all, arith}
use Rattle.std.proofs.lemmas.Bool.{false≢true}
use Rattle.awari_answers.specs.Refusals.{request_text}
use lib.Seq.{take-append-add}

-- bytes that were cut are cut with others behind them as they would be without
pub cut_again : (n : ℕ) (a b : List ℕ) → take n (take n a ++ b) ≡ take n (a ++ b)
cut_again zero a b = refl
cut_again (suc n) [] b = refl
cut_again (suc n) (x ∷ a) b = ap (λ (r : List ℕ). x ∷ r) (cut_again n a b)

some_side : (m n : ℕ) → (m ≤ n) ⊎ (n ≤ m)
some_side m n = grind arith

cut_by_side : (k : ℕ) (b : List ℕ) → (length b ≤ k) ⊎ (k ≤ length b) → take (min (length b) k) b ≡ take k b
cut_by_side k b (inl few) =
    let all : min (length b) k ≡ length b = omega (arith, few) in
    rw all (take_all (length b) b (omega arith) ∙ sym (take_all k b few))
cut_by_side k b (inr many) =
    let all : min (length b) k ≡ k = omega (arith, many) in
    rw all refl

-- as many bytes as there is room for behind others are both, cut
pub cut_behind : (n k : ℕ) (a b : List ℕ) → length a + k ≡ n → a ++ take (min (length b) k) b ≡ take n (a ++ b)
cut_behind n k a b room =
    ap (λ (r : List ℕ). a ++ r) (cut_by_side k b (some_side (length b) k))
    ∙ sym (take-append-add a b k)
    ∙ ap (λ (m : ℕ). take m (a ++ b)) room

pub some_of_test : (n : ℕ) → (n == 0) ≡ false → 0 < n
some_of_test zero none = absurd (false≢true (sym none))
some_of_test (suc n) none = omega arith

-- a command and a word, each cut as it comes
pub request_of_word : (n : ℕ) (command word : List ℕ) → 0 < length word
    → take n (take n (take n command ++ codes " ") ++ word) ≡ take n (request_text command word)
request_of_word n command [] some = absurd (omega (arith, some))
request_of_word n command (byte ∷ word) some =
    cut_again n (take n command ++ codes " ") (byte ∷ word)
    ∙ ap (λ (r : List ℕ). take n r) (append_assoc (take n command) (codes " ") (byte ∷ word))
    ∙ cut_again n command (32 ∷ byte ∷ word)
