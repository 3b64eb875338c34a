use Rattle.std.proofs.Common.{◌≡◌, ◌+◌, ℕ, List, ◌++◌, take}
use Rattle.awari_game.specs.Shown.{Shows}
use Rattle.awari_boards.specs.Judgement.{pits_named}
use Rattle.awari_boards.proofs.judgements.play_word.Given as goal

abbrev pub invariant-loop-byte : goal.invariant-loop-byte
invariant-loop-byte l = ((board pits : List ℕ) → Shows l.fn.game board pits → Shows l.game board (pits ++ pits_named (take l.byte-index l.word)))
    × (l.number ≡ l.byte-index + 1)
