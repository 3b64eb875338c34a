-- The text of a board, pit by pit.
use Rattle.std.proofs.Common.{◌≡◌, ℕ, ◌+◌, List, [], ◌∷◌, ◌++◌, get_or, zero-add, ap, ◌∙◌}
use Rattle.std.specs.List.{range_with_len, flat_map}
use Rattle.std.proofs.lemmas.Grind.{flat_map-append}
use Rattle.std.proofs.lemmas.List.{append-nil}
use Rattle.awari_board.specs.Text.{digits, mark_after, text_to}
use Rattle.awari_board.proofs.Falling.{range-more}

pub text_to-more : (board : List ℕ) (n : ℕ) → text_to board (n + 1) ≡ text_to board n ++ (digits (get_or board n 0) ++ mark_after n)
text_to-more board n =
    let pit : ℕ → List ℕ = λ i. digits (get_or board i 0) ++ mark_after i in
    ap (flat_map pit) (range-more 0 n) ∙ flat_map-append pit (range_with_len 0 n) ((0 + n) ∷ []) ∙ ap (λ t. text_to board n ++ t) (append-nil (pit (0 + n)) ∙ ap pit (zero-add n))
