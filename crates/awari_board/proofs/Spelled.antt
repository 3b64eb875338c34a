-- The text of a board is of ASCII characters.
use Rattle.std.proofs.Common.{ℕ, zero, suc, ◌+◌, ◌/◌, ◌%◌, ◌<◌, Bool, true, false, cond, leb, eqb, List, [], ◌∷◌, ◌++◌, get_or, sym, ap, ◌∙◌, subst, arith, add-one}
use Rattle.std.proofs.lemmas.Str.{IsUtf8-from_ascii}
use Rattle.std.specs.Prelude.{IsUtf8}
use Rattle.std.specs.Str.{IsAscii}
use Rattle.awari_board.specs.Rules.{IsBoard}
use Rattle.awari_board.specs.Text.{digits, mark_after, text_to, text_of}
use Rattle.awari_board.proofs.Parsing.{small-from_IsBoard}
use Rattle.awari_board.proofs.Writing.{text_to-more}

one_ascii : (b : ℕ) (bs : List ℕ) → b < 128 → IsAscii bs → IsAscii (b ∷ bs)
one_ascii b bs small rest zero = small
one_ascii b bs small rest (suc i) = rest i

none_ascii : IsAscii []
none_ascii i = omega arith

both_ascii : (xs ys : List ℕ) → IsAscii xs → IsAscii ys → IsAscii (xs ++ ys)
both_ascii [] ys left right = right
both_ascii (x ∷ xs) ys left right = one_ascii x (xs ++ ys) (left 0) (both_ascii xs ys (λ i. left (suc i)) right)

digits_ascii : (n : ℕ) → n < 100 → IsAscii (digits n)
digits_ascii n small = both_ascii (cond (leb 10 n) ((48 + n / 10) ∷ []) []) ((48 + n % 10) ∷ []) (tens (leb 10 n)) (one_ascii (48 + n % 10) [] (omega arith) none_ascii)
  where
    tens : (b : Bool) → IsAscii (cond b ((48 + n / 10) ∷ []) [])
    tens true = one_ascii (48 + n / 10) [] (omega arith) none_ascii
    tens false = none_ascii

mark_ascii : (i : ℕ) → IsAscii (mark_after i)
mark_ascii i = which (eqb i 11) (eqb i 5)
  where
    which : (last side : Bool) → IsAscii (cond last [] (cond side 47 44 ∷ []))
    which true side = none_ascii
    which false true = one_ascii 47 [] (omega arith) none_ascii
    which false false = one_ascii 44 [] (omega arith) none_ascii

text_ascii : (board : List ℕ) (n : ℕ) → ((k : ℕ) → get_or board k 0 < 100) → IsAscii (text_to board n)
text_ascii board zero small = none_ascii
text_ascii board (suc n) small =
    subst IsAscii (sym (ap (text_to board) (sym (add-one n)) ∙ text_to-more board n))
    (both_ascii (text_to board n) (digits (get_or board n 0) ++ mark_after n) (text_ascii board n small) (both_ascii (digits (get_or board n 0)) (mark_after n) (digits_ascii (get_or board n 0) (small n)) (mark_ascii n)))

pub text_utf8 : (board : List ℕ) → IsBoard board → IsUtf8 (text_of board)
unfolding text_of
text_utf8 board whole = IsUtf8-from_ascii (text_to board 12) (text_ascii board 12 (small-from_IsBoard board whole))
