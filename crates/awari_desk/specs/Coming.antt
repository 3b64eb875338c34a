-- How far the service has come. Private functions alone go by these: no public contract does.
use Rattle.std.specs.Prelude.{◌≡◌, ◌⊎◌, ◌<◌, ◌≤◌, ◌+◌, ℕ, List, [], ◌++◌, length, Bool, true, false, Option, Some, None, Result, Ok, Err, MatchResult, ◌↔◌}
use Rattle.std.specs.Io.KnownBytes.{Appends, Consumes}
use Rattle.awari_desk.specs.Answering.{Answering}
use Rattle.awari_desk.specs.declared.answers.Answer.{Answer}
use Rattle.awari_desk.specs.declared.answers.Answer.TheVariants.{Bye}
use Rattle.awari_desk.specs.declared.requests.Coming.{Coming}
use Rattle.awari_desk.specs.declared.requests.TheConstants.{LONGEST_REQUEST}
use Rattle.awari_desk.specs.Service.{Answered, IsOneLine, IsAnswerTo, answer_text, IsInput, HasServed, HasBegun}

-- these are the bytes of the request that is coming in
abbrev pub Holds : Coming → List ℕ → Type 0
Holds c request = ((c.is_long ≡ true) × (LONGEST_REQUEST < length request)) ⊎ ((c.is_long ≡ false) × (request ≡ c.bytes.items))

-- what was taken are requests that were answered, and the request that is coming in
pub record Serving {S F : Type 0} (asked : Answering S F) (first : S) (before : Option (List ℕ)) (taken : List ℕ) (now : Option (List ℕ)) (known : S) (coming : Coming) : Type 0 where
  pub done : List ℕ
  pub request : List ℕ
  pub output : List ℕ
  pub parts : taken ≡ done ++ request
  pub answered : Answered asked first done output known
  pub one : IsOneLine request
  pub holds : Holds coming request
  pub wrote : Appends before now output

-- an answer to the request was written, or the front of one
abbrev pub Responds : {S F E : Type 0} → Answering S F → S → List ℕ → Result Bool E → S → Option (List ℕ) → Option (List ℕ) → Type 0
Responds {F = F} asked known request result then before after = (answer : Answer F) × IsAnswerTo asked known request answer then × MatchResult result
    (λ bye. ((bye ≡ true) ↔ (answer ≡ Bye)) × Appends before after (answer_text asked answer))
    (λ _. (front rest : List ℕ) × (answer_text asked answer ≡ front ++ rest) × Appends before after front)

-- the service ended within these bytes, whatever comes behind them; it was refused; or it goes on
abbrev pub Feeds : {S F E : Type 0} → Answering S F → S → Option (List ℕ) → List ℕ → Result Bool E → Option (List ℕ) → S → Coming → Type 0
Feeds asked first before taken result after known coming = MatchResult result
    (λ quit. (quit ≡ true → (rest : List ℕ) → HasServed asked first before (taken ++ rest) after known) × (quit ≡ false → Serving asked first before taken after known coming))
    (λ _. HasBegun asked first before taken after known)

-- all that was taken is answered, or it was refused
abbrev pub Ends : {S F E X : Type 0} → Answering S F → S → Option (List ℕ) → List ℕ → Result X E → Option (List ℕ) → S → Type 0
Ends asked first before taken result after known = MatchResult result (λ _. HasServed asked first before taken after known) (λ _. HasBegun asked first before taken after known)

-- The service ended behind these bytes that came; nothing stands behind them, or it is the same whatever does.
abbrev pub Closes : {S F : Type 0} → Answering S F → S → Option (List ℕ) → List ℕ → List ℕ → List ℕ → Option (List ℕ) → S → Type 0
Closes asked first before taken front behind after known = ((behind ≡ []) × HasServed asked first before (taken ++ front) after known)
    ⊎ ((rest : List ℕ) → HasServed asked first before (taken ++ (front ++ rest)) after known)

-- The service ended within what the reader had left; it goes on, with bytes taken; or it was refused. No more bytes count than
-- may come.
abbrev pub Moves : {S F E : Type 0} → Answering S F → S → Option (List ℕ) → List ℕ → ℕ → Option (List ℕ) → Option (List ℕ) → Result (Option ℕ) E → Option (List ℕ) → S → Coming → Type 0
Moves asked first before taken left had has (Ok None) after known coming =
    (front behind : List ℕ) × IsInput had (front ++ behind) × (length front ≤ left) × Closes asked first before taken front behind after known
Moves asked first before taken left had has (Ok (Some fewer)) after known coming =
    (bytes : List ℕ) × Consumes had has bytes × (length bytes + fewer ≡ left) × (fewer < left) × Serving asked first before (taken ++ bytes) after known coming
Moves asked first before taken left had has (Err fault) after known coming =
    (front behind : List ℕ) × IsInput had (front ++ behind) × (length front ≤ left) × HasBegun asked first before (taken ++ front) after known
