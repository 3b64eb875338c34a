-- The service: requests that come in, each a line, and the lines that each is answered by.
use Rattle.std.specs.Prelude.{◌≡◌, ◌≢◌, ◌⊎◌, ◌≤◌, ◌<◌, ℕ, Bool, false, true, List, [], ◌∷◌, ◌++◌, length, codes, All, Option, Some, None, Ok, Err, ⊤}
use Rattle.std.specs.Fmt.{decimal}
use Rattle.std.specs.Io.KnownBytes.{Appends}
use Rattle.arrayvec.specs.ArrayVec.{ArrayVec}
use Rattle.awari_board.specs.Rules.{IsBoard}
use Rattle.awari_board.specs.Text.{text_of}
use Rattle.awari_board.specs.BoardFault.{IsFaulty, reason_of as board_reason_of}
use Rattle.awari_faults.specs.Refusals.{words_text}
use Rattle.awari_table.specs.Spelling.{entry_line}
use Rattle.awari_shown.specs.Json.{refusal_json, weighed_json}
use Rattle.awari_shown.specs.Moves.{weighed_text}
use Rattle.awari_desk.specs.Answering.{Answering}
use Rattle.awari_desk.specs.ProbeFault.{number_of}
use Rattle.awari_desk.specs.declared.faults.ProbeFault.{ProbeFault}
use Rattle.awari_desk.specs.declared.faults.ProbeFault.TheVariants.{Board, Ask}
use Rattle.awari_desk.specs.declared.answers.Answer.{Answer}
use Rattle.awari_desk.specs.declared.answers.Answer.TheVariants.{Found, Moves, Probed, Unprobed, Unanswered, Refused, Seen, Bye, What}
use Rattle.awari_desk.specs.declared.requests.TheConstants.{LONGEST_REQUEST}

-- the lines of an answer, each with its line feed; behind those of moves stands an empty line
abbrev pub answer_text : {S F : Type 0} → Answering S F → Answer F → List ℕ
answer_text asked (Found entry) = entry_line entry
answer_text asked (Moves weighed) = weighed_text weighed ++ 10 ∷ []
answer_text asked (Probed board weighed) = weighed_json board weighed
answer_text asked (Unprobed request fault) = refusal_json request.items (number_of asked fault)
answer_text asked (Unanswered fault) = asked.line fault
answer_text asked (Refused fault) = codes "refused " ++ words_text (board_reason_of fault) ++ 10 ∷ []
answer_text asked (Seen levels) = codes "seen " ++ decimal levels ++ 10 ∷ []
answer_text asked Bye = codes "bye" ++ 10 ∷ []
answer_text asked What = codes "what" ++ 10 ∷ []

-- what a request has to be to ask for something: this, or this with more behind it
abbrev pub asking : List ℕ
asking = codes "ask "

-- for the moves of a board, without or with the replies to each
abbrev pub weighing : Bool → List ℕ
weighing false = codes "moves "
weighing true = codes "replies "

-- for all of these as JSON
abbrev pub probing : List ℕ
probing = codes "probe "

-- the request asks for what this text spells: for its entry, or for what its moves are worth
abbrev pub Names : List ℕ → List ℕ → Type 0
Names request text = (request ≡ asking ++ text) ⊎ ((replies : Bool) × (request ≡ weighing replies ++ text))

-- the request asks for no entry, for no moves without replies, and for nothing of the service itself
pub record IsNoPlainRequest (request : List ℕ) : Type 0 where
  pub seen : request ≢ codes "seen"
  pub quit : request ≢ codes "quit"
  pub ask : (text : List ℕ) → request ≢ asking ++ text
  pub moves : (text : List ℕ) → request ≢ weighing false ++ text

abbrev pub IsNoRequest : List ℕ → Type 0
IsNoRequest request = IsNoPlainRequest request × ((text : List ℕ) → request ≢ weighing true ++ text) × ((text : List ℕ) → request ≢ probing ++ text)

-- the request was refused for this fault
abbrev pub IsRefusalOf : {F : Type 0} → List ℕ → ProbeFault F → Answer F → Type 0
IsRefusalOf request fault answer = (bytes : ArrayVec ℕ) × (answer ≡ Unprobed bytes fault) × (bytes.items ≡ request)

-- The request asks for all of a board, and has this fault: what is named is no board, or who is asked refuses it.
abbrev pub IsUnprobed : {S F : Type 0} → Answering S F → S → List ℕ → ProbeFault F → S → Type 0
IsUnprobed asked known request (Board fault) then = (text : List ℕ) × (request ≡ probing ++ text) × (length request ≤ LONGEST_REQUEST) × IsFaulty text fault × (then ≡ known)
IsUnprobed asked known request (Ask fault) then = (board : List ℕ) × IsBoard board × (request ≡ probing ++ text_of board) × asked.moves false known then board (Err fault)

-- The request asks for the entry of a board, or for what its moves are worth, and who is asked refuses it.
abbrev pub IsUnanswered : {S F : Type 0} → Answering S F → S → List ℕ → F → S → Type 0
IsUnanswered asked known request fault then = (board : List ℕ) × IsBoard board
    × (((request ≡ asking ++ text_of board) × asked.entry known then board (Err fault))
    ⊎ ((replies : Bool) × (request ≡ weighing replies ++ text_of board) × asked.moves replies known then board (Err fault)))

-- The answer to a request by who is asked, from what is known before to what is known then.
abbrev pub IsAnswerTo : {S F : Type 0} → Answering S F → S → List ℕ → Answer F → S → Type 0
-- it asks for a board, and this is its entry
IsAnswerTo asked known request (Found entry) then = (board : List ℕ) × IsBoard board × (request ≡ asking ++ text_of board) × asked.entry known then board (Ok entry)
-- it asks for the moves of a board, which are weighed, with the replies if it asks for them
IsAnswerTo asked known request (Moves weighed) then =
    (board : List ℕ) × (replies : Bool) × IsBoard board × (request ≡ weighing replies ++ text_of board) × asked.moves replies known then board (Ok weighed)
-- it asks for all of this board, which is weighed so
IsAnswerTo asked known request (Probed board weighed) then = IsBoard board × (request ≡ probing ++ text_of board) × asked.moves false known then board (Ok weighed)
-- it asks for that, and has this fault
IsAnswerTo asked known request (Unprobed bytes fault) then = (bytes.items ≡ request) × IsUnprobed asked known request fault then
-- it asks for a board or its moves, and has this fault
IsAnswerTo asked known request (Unanswered fault) then = IsUnanswered asked known request fault then
-- it names what is no board
IsAnswerTo asked known request (Refused fault) then =
    (text : List ℕ) × Names request text × (length request ≤ LONGEST_REQUEST) × IsFaulty text fault × (then ≡ known)
-- it asks how many levels are known
IsAnswerTo asked known request (Seen levels) then = (request ≡ codes "seen") × (levels ≡ asked.seen known) × (then ≡ known)
-- it ends the service
IsAnswerTo asked known request Bye then = (request ≡ codes "quit") × (then ≡ known)
-- it is anything else
IsAnswerTo asked known request What then = ((LONGEST_REQUEST < length request) ⊎ IsNoRequest request) × (then ≡ known)

-- no byte is a line feed
abbrev pub IsOneLine : List ℕ → Type 0
IsOneLine request = All (λ b. b ≢ 10) request

-- Requests, each ended by its line feed, and their answers in order by who is asked; none of them ends the service. What is known
-- goes from the first to the last.
pub data Answered {S F : Type 0} (asked : Answering S F) : S → List ℕ → List ℕ → S → Type 0 where
  none : (known : S) → Answered asked known [] [] known
  more : (first known then : S) (input output request : List ℕ) (answer : Answer F) → Answered asked first input output known
      → IsOneLine request → IsAnswerTo asked known request answer then → answer ≢ Bye
      → Answered asked first (input ++ (request ++ 10 ∷ [])) (output ++ answer_text asked answer) then

-- The output for an input.
pub data Served {S F : Type 0} (asked : Answering S F) : S → List ℕ → List ℕ → S → Type 0 where
  -- the input ends behind a request
  ended : (first last : S) (input output : List ℕ) → Answered asked first input output last → Served asked first input output last
  -- the last request has no line feed
  unended : (first known last : S) (input output request : List ℕ) (answer : Answer F) → Answered asked first input output known
      → IsOneLine request → request ≢ [] → IsAnswerTo asked known request answer last
      → Served asked first (input ++ request) (output ++ answer_text asked answer) last
  -- a request ends the service, and nothing behind it is answered
  quits : (first known last : S) (input output request rest : List ℕ) → Answered asked first input output known
      → IsOneLine request → IsAnswerTo asked known request Bye last
      → Served asked first (input ++ (request ++ 10 ∷ rest)) (output ++ answer_text asked Bye) last

-- an input that is known to be this one, where it is known
abbrev pub IsInput : Option (List ℕ) → List ℕ → Type 0
IsInput None input = ⊤
IsInput (Some known) input = known ≡ input

-- the writer took the output for the input
abbrev pub HasServed : {S F : Type 0} → Answering S F → S → Option (List ℕ) → List ℕ → Option (List ℕ) → S → Type 0
HasServed asked first before input after last = (output : List ℕ) × Served asked first input output last × Appends before after output

-- It took the output for a front of the input, of this many bytes at most. Nothing stands behind that front, or the output is
-- the same whatever stands there, as it is where a request of the front ends the service.
abbrev pub HasServedWithin : {S F : Type 0} → Answering S F → ℕ → S → Option (List ℕ) → Option (List ℕ) → Option (List ℕ) → S → Type 0
HasServedWithin asked most first before input after last = (front behind : List ℕ) × IsInput input (front ++ behind) × (length front ≤ most)
    × (((behind ≡ []) × HasServed asked first before front after last) ⊎ ((rest : List ℕ) → HasServed asked first before (front ++ rest) after last))

-- the writer took the front of an output for a front of the input
pub record HasBegun {S F : Type 0} (asked : Answering S F) (first : S) (before : Option (List ℕ)) (input : List ℕ) (after : Option (List ℕ)) (last : S) : Type 0 where
  pub front : List ℕ
  pub behind : List ℕ
  pub taken : List ℕ
  pub due : List ℕ
  pub parts : input ≡ front ++ behind
  pub served : Served asked first front (taken ++ due) last
  pub wrote : Appends before after taken

-- and that front of the input is of the first bytes, this many at most
abbrev pub HasBegunWithin : {S F : Type 0} → Answering S F → ℕ → S → Option (List ℕ) → Option (List ℕ) → Option (List ℕ) → S → Type 0
HasBegunWithin asked most first before input after last = (front behind : List ℕ) × IsInput input (front ++ behind) × (length front ≤ most) × HasBegun asked first before front after last
