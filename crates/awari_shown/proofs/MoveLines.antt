-- The lines of the moves of a board.
use Rattle.std.proofs.Common.{◌≡◌, ℕ, ◌+◌, ◌<◌, List, [], ◌∷◌, ◌++◌, length, get_or, take, Option, sym, ap, ◌∙◌, append-nil}
use Rattle.std.proofs.lemmas.Grind.{flat_map-append}
use Rattle.std.proofs.lemmas.List.{take_more}
use Rattle.awari_play.specs.declared.weighing.WeighedMove.{WeighedMove}
use Rattle.awari_shown.specs.Moves.{move_line, move_lines}

-- one line more
pub move_lines-more : (plan : Option ℕ) (moves : List WeighedMove) (i : ℕ) (m : WeighedMove) (before after : List ℕ) → i < length moves → get_or moves i m ≡ m
    → before ≡ move_lines plan (take i moves) → after ≡ before ++ move_line plan m → after ≡ move_lines plan (take (i + 1) moves)
unfolding move_lines
move_lines-more plan moves i m before after inside own spelled more = more ∙ ap (λ t. t ++ move_line plan m) spelled ∙ sym lines
  where
    lines : move_lines plan (take (i + 1) moves) ≡ move_lines plan (take i moves) ++ move_line plan m
    lines =
        ap (move_lines plan) (take_more moves i m inside ∙ ap (λ w. take i moves ++ w ∷ []) own)
        ∙ flat_map-append (move_line plan) (take i moves) (m ∷ []) ∙ ap (λ t. move_lines plan (take i moves) ++ t) (append-nil (move_line plan m))
