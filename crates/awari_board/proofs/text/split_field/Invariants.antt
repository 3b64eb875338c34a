use Rattle.std.proofs.Common.{◌≡◌, ◌<◌, ℕ, false, get_or}
use Rattle.awari_board.specs.Text.{is_separator}
use Rattle.awari_board.proofs.text.split_field.Given as goal

abbrev pub invariant-loop-byte : goal.invariant-loop-byte
invariant-loop-byte l = record {
  here : l.end ≡ l.byte-index;
  plain : (k : ℕ) → k < l.end → is_separator (get_or l.text k 0) ≡ false;
}
