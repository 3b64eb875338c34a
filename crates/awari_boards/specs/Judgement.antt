-- The command `judge`: a play from a board that is given as text, and what is printed of it.
use Rattle.std.specs.Prelude.{◌≡◌, ℕ, ◌+◌, ◌-◌, ◌&&◌, nat_le, if◌then◌else◌, min, List, ◌++◌, ◌∷◌, [], length, map, codes, ℤ, Option, Some, None, ◌↔◌}
use Rattle.std.specs.Borrow.{Bor}
use Rattle.std.specs.List.{flat_map}
use Rattle.std.specs.Fmt.{decimal, signed_decimal}
use Rattle.std.specs.Io.KnownBytes.{Appends}
use Rattle.awari_board.specs.BoardFault.{IsFaulty}
use Rattle.awari_board.specs.MoveFault.{IsDue}
use Rattle.awari_board.specs.Rules.{IsBoard}
use Rattle.awari_board.specs.Text.{text_of}
use Rattle.awari_board.specs.declared.moves.MoveFault.{MoveFault}
use Rattle.awari_game.specs.Plays.{Standing, start, IsPlay, IsOutcome}
use Rattle.awari_game.specs.Shown.{greatest_u64}
use Rattle.awari_answers.specs.declared.asked.NoAnswer.{NoAnswer}
use Rattle.awari_answers.specs.declared.asked.NoAnswer.TheVariants.{Board, MoveAt}
use Rattle.awari_boards.specs.declared.judgements.Judgement.{Judgement}

-- the pit that a byte names: a digit is a pit's number, and any other byte is no pit's
abbrev pub pit_named : ℕ → ℕ
pit_named byte = if nat_le 48 byte && nat_le byte 57 then byte - 48 else 255

-- the pits that some bytes name, one each
abbrev pub pits_named : List ℕ → List ℕ
pits_named moves = map pit_named moves

-- the bytes of all these words, one word after the other
abbrev pub bytes_of : List (Bor (List ℕ)) → List ℕ
bytes_of words = flat_map (λ word. word.now) words

-- Where the play of these pits from the board stands, and its outcome for the limit if there is one.
pub record IsJudged (board : List ℕ) (limit : ℕ) (pits : List ℕ) (judgement : Judgement) : Type 0 where
  pub whole : IsBoard board
  pub standing : Standing
  pub play : IsPlay (start board) pits standing
  pub reached : judgement.board ≡ standing.board
  pub running : judgement.running ≡ standing.running
  pub quiet : judgement.quiet ≡ min standing.quiet greatest_u64
  pub outcome : (x : ℤ) → (judgement.outcome ≡ Some x) ↔ IsOutcome limit standing x

abbrev pub IsJudgement : List ℕ → ℕ → List ℕ → Judgement → Type 0
IsJudgement text limit moves judgement = (board : List ℕ) × (text ≡ text_of board) × IsJudged board limit (pits_named moves) judgement

-- The first move that is refused: those before it are a play, and it has this fault where that stands.
pub record IsRefusedAt (board pits : List ℕ) (number : ℕ) (fault : MoveFault) : Type 0 where
  pub before : List ℕ
  pub pit : ℕ
  pub rest : List ℕ
  pub parts : pits ≡ before ++ pit ∷ rest
  pub place : number ≡ length before + 1
  pub standing : Standing
  pub play : IsPlay (start board) before standing
  pub due : IsDue standing.board pit fault

-- the fault of the text, or where it is that of a board, the first fault of a move
abbrev pub IsJudgeFault : List ℕ → List ℕ → NoAnswer → Type 0
IsJudgeFault text moves (Board fault) = IsFaulty text fault
IsJudgeFault text moves (MoveAt fault number) = (board : List ℕ) × IsBoard board × (text ≡ text_of board) × IsRefusedAt board (pits_named moves) number fault
IsJudgeFault text moves other = ⊥

abbrev pub outcome_text : Option ℤ → List ℕ
outcome_text None = codes "none"
outcome_text (Some outcome) = signed_decimal outcome

abbrev pub judgement_text : Judgement → List ℕ
judgement_text j = codes "board " ++ text_of j.board ++ codes "\nrunning " ++ signed_decimal j.running ++ codes "\nquiet " ++ decimal j.quiet ++ codes "\noutcome " ++ outcome_text j.outcome

-- Where it is known what the writer holds, what was written is the judgement of the play of these moves, and the line feed.
abbrev pub PrintsJudgement : List ℕ → ℕ → List ℕ → Option (List ℕ) → Option (List ℕ) → Type 0
PrintsJudgement text limit moves before after = (judgement : Judgement) × IsJudgement text limit moves judgement
    × Appends before after (judgement_text judgement ++ 10 ∷ [])
