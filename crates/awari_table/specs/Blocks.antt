-- What the reader of a level answers, as functions on lists. Private functions alone go by these: no public contract does.
use Rattle.std.specs.Prelude.{◌≡◌, ◌≢◌, ℕ, zero, suc, ◌+◌, ◌≤◌, not, List, [], ◌∷◌, length, Option, Some, None, Result, Ok, Err, nat_lt, ◌==◌, if◌then◌else◌}
use Rattle.std.specs.List.{list_any}
use Rattle.awari_rank.specs.Rank.{size_of}
use Rattle.awari_table.specs.declared.TheConstants.{HIGHEST_LEVEL}
use Rattle.awari_table.specs.declared.images.Entry.{Entry}
use Rattle.awari_table.specs.declared.images.Image.{Image}
use Rattle.awari_table.specs.declared.lines.Header.{Header}
use Rattle.awari_table.specs.declared.faults.TableFault.{TableFault}
use Rattle.awari_table.specs.declared.faults.TableFault.TheVariants.{Line, Order, High, Short, Memory}
use Rattle.awari_table.specs.Reading.{entry_at, header_at}
use Rattle.awari_table.specs.Place.{Place}

infixl 10 ◌>>=◌
abbrev pub ◌>>=◌ : {A B : Type 0} → Result A TableFault → (A → Result B TableFault) → Result B TableFault
(Ok x) >>= f = f x
(Err e) >>= f = Err e

-- what a function returned, seen by view, is what reading gives, unless memory ran out
abbrev pub Fails : {Y : Type 0} → TableFault → Result Y TableFault → Type 0
Fails Memory read = Unit {0}
Fails (Line line) read = read ≡ Err (Line line)
Fails (Order line) read = read ≡ Err (Order line)
Fails (High line) read = read ≡ Err (High line)
Fails Short read = read ≡ Err Short

abbrev pub Gives : {X Y : Type 0} → (X → Y) → Result X TableFault → Result Y TableFault → Type 0
Gives view (Ok x) read = read ≡ Ok (view x)
Gives view (Err e) read = Fails e read

-- there is a line, which is not of the form that is due, or there is none
abbrev pub line_fault : ℕ → List ℕ → TableFault
line_fault line bytes = if list_any (λ b. b == 10) bytes then Line line else Short

abbrev pub or_fault : {A : Type 0} → Option A → TableFault → Result A TableFault
or_fault None fault = Err fault
or_fault (Some x) fault = Ok x

unfoldable pub entries_at : ℕ → ℕ → List ℕ → Result (List Entry × List ℕ) TableFault
entries_at zero line bytes = Ok ([], bytes)
entries_at (suc n) line bytes = do
  first ← or_fault (entry_at bytes) (line_fault line bytes)
  others ← entries_at n (line + 1) first.1
  Ok (first.0 ∷ others.0, others.1)

-- what the header says, if it is the next level's
abbrev pub opened_by : ℕ → ℕ → Header × List ℕ → Result (Header × List ℕ) TableFault
opened_by next line h =
    if nat_lt HIGHEST_LEVEL h.0.level then Err (High line)
    else if not (h.0.level == next) then Err (Order line)
    else Ok h

unfoldable pub block_at : ℕ → ℕ → List ℕ → Result (Image × List ℕ) TableFault
block_at next line bytes = do
  h ← or_fault (header_at bytes) (line_fault line bytes)
  opened ← opened_by next line h
  es ← entries_at (size_of next) (line + 1) opened.1
  Ok (record { level = next; limit = opened.0.limit; entries = es.0 }, es.1)

-- the text begins with the next level's header
abbrev pub IsOpened : ℕ → List ℕ → Type 0
IsOpened next bytes = (h : Header × List ℕ) × (header_at bytes ≡ Some h) × (h.0.level ≡ next) × (next ≤ HIGHEST_LEVEL)

-- a call where nothing was refused before
abbrev pub Steps : Place → Result (Option Image) TableFault → Place → Type 0
Steps old (Ok None) new = (old.rest ≡ []) × (new ≡ old)
Steps old (Ok (Some image)) new =
    (block_at old.next old.line old.rest ≡ Ok (image, new.rest)) × (new.next ≡ old.next + 1)
    × (new.line ≡ old.line + 1 + length image.entries) × (new.refused ≡ None)
Steps old (Err fault) new =
    (old.rest ≢ []) × Fails fault (block_at old.next old.line old.rest) × (fault ≡ Memory → IsOpened old.next old.rest)
    × (new ≡ record old { refused = Some fault })

abbrev pub AnswersAfter : Option TableFault → Place → Result (Option Image) TableFault → Place → Type 0
AnswersAfter None old result new = Steps old result new
AnswersAfter (Some fault) old result new = (result ≡ Err fault) × (new ≡ old)

-- one call: a refusal is repeated
abbrev pub Answers : Place → Result (Option Image) TableFault → Place → Type 0
Answers old result new = AnswersAfter old.refused old result new
