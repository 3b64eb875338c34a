-- Spans of numbers: `A..B`, `A..`, `..B`, or one number.
use Rattle.std.specs.Prelude.{◌≡◌, ◌≢◌, ◌⊎◌, ℕ, Bool, true, false, ◌&&◌, List, ◌++◌, ◌∷◌, [], codes, ℤ, pos, neg_ℤ, int_le, ◌≤ℤ◌, Option, Some, None, FitsSigned}
use Rattle.std.specs.Int.{w64}
use Rattle.std.specs.Borrow.{Bor}
use Rattle.std.specs.Str.Parse.{IsNumeral, signed_digits_value, without_leading_sign}
use Rattle.awari_queries.specs.declared.spans.NoSpan.{NoSpan}
use Rattle.awari_queries.specs.declared.spans.NoSpan.TheVariants.{Value, Distance, Plan, Captures, Greedy, Side, Moves, Keep, Trap, Other}
use Rattle.awari_queries.specs.declared.spans.Span.{Span}

-- the text is a decimal number of at most 64 bits, with a sign or not
pub record SpellsNumber (text : List ℕ) (number : ℤ) : Type 0 where
  pub numeral : IsNumeral 10 (without_leading_sign text)
  pub value : number ≡ signed_digits_value 10 text
  pub fits : FitsSigned w64 number

-- the end of a span: the number that the text spells, or the one that is given if the text is empty
abbrev pub IsEnd : ℤ → List ℕ → ℤ → Type 0
IsEnd otherwise [] end = end ≡ otherwise
IsEnd otherwise (c ∷ cs) end = SpellsNumber (c ∷ cs) end

-- The ends are spelled before two dots (46) and behind them, and one of them is. An end that is not spelled is the least or the
-- greatest number of 64 bits. The lower end is first.
pub record IsRange (low rest : List ℕ) (span : Span) : Type 0 where
  pub high : List ℕ
  pub dot : rest ≡ 46 ∷ high
  pub some : (low ≡ [] → high ≢ [])
  pub lowest : IsEnd (neg_ℤ (pos 9223372036854775808)) low span.low
  pub highest : IsEnd (pos 9223372036854775807) high span.high
  pub order : span.low ≤ℤ span.high

-- the text has two dots between its ends, or is one number
pub record IsTwoEnds (text : List ℕ) (span : Span) : Type 0 where
  pub low : List ℕ
  pub rest : List ℕ
  pub parts : text ≡ low ++ 46 ∷ rest
  pub range : IsRange low rest span

abbrev pub IsOneNumber : List ℕ → Span → Type 0
IsOneNumber text span = SpellsNumber text span.low × (span.high ≡ span.low)

abbrev pub IsSpan : List ℕ → Span → Type 0
IsSpan text span = IsTwoEnds text span ⊎ IsOneNumber text span

-- the span that a text asks for, if there is one
abbrev pub AsksFor : Option (Bor (List ℕ)) → Option Span → Type 0
AsksFor None None = Unit {0}
AsksFor None (Some span) = ⊥
AsksFor (Some text) None = ⊥
AsksFor (Some text) (Some span) = IsSpan text.now span

-- a text asks for a span that is none
abbrev pub AsksForNone : Option (Bor (List ℕ)) → Type 0
AsksForNone None = ⊥
AsksForNone (Some text) = (span : Span) → IsSpan text.now span → ⊥

-- an option, as it is written
abbrev pub option_of : NoSpan → List ℕ
option_of Value = codes "--value"
option_of Distance = codes "--distance"
option_of Plan = codes "--plan"
option_of Captures = codes "--captures"
option_of Greedy = codes "--greedy"
option_of Side = codes "--side"
option_of Moves = codes "--moves"
option_of Keep = codes "--keep"
option_of Trap = codes "--trap"
option_of Other = codes "--other"

-- the number is in the span, if there is one
abbrev pub is_in : Option Span → ℤ → Bool
is_in None x = true
is_in (Some span) x = int_le span.low x && int_le x span.high

-- There is a number and it is in the span. Without a span there need be no number.
abbrev pub has : Option Span → Option ℕ → Bool
has None number = true
has (Some span) None = false
has (Some span) (Some n) = is_in (Some span) (pos n)
