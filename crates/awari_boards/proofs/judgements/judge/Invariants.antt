use Rattle.std.proofs.Common.{◌≡◌, ◌≤◌, ◌*◌, ◌^◌, ℕ, List, length, take}
use Rattle.awari_board.specs.Rules.{IsBoard}
use Rattle.awari_board.specs.Text.{text_of}
use Rattle.awari_game.specs.Shown.{Shows}
use Rattle.awari_boards.specs.Judgement.{bytes_of, pits_named}
use Rattle.awari_boards.proofs.judgements.judge.Given as goal

abbrev pub invariant-loop-word : goal.invariant-loop-word
invariant-loop-word l = (board : List ℕ) × IsBoard board × (l.text ≡ text_of board) × Shows l.game board (pits_named (bytes_of (take l.word-index l.words)))
    × (l.played ≡ length (bytes_of (take l.word-index l.words))) × (l.played ≤ l.word-index * 2 ^ 63)
