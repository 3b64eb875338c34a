-- What is told of a refusal, and how that is printed.
use Rattle.std.specs.Prelude.{ℕ, Bool, true, false, List, [], ◌∷◌, ◌++◌, codes}
use Rattle.std.specs.Fmt.{decimal}
use Rattle.std.specs.List.{flat_map}
use Rattle.awari_faults.specs.Meanings.{name_of}

-- A field of a fault: its name, its value as it is printed, and whether that is a word.
pub record Shown : Type 0 where
  pub name : List ℕ
  pub value : List ℕ
  pub is_word : Bool

abbrev pub number : List ℕ → ℕ → Shown
number name n = record { name = name; value = decimal n; is_word = false }

abbrev pub word : List ℕ → List ℕ → Shown
word name w = record { name = name; value = w; is_word = true }

-- What is told of a fault: its number, which gives its name, and its fields.
pub record Words : Type 0 where
  pub number : ℕ
  pub fields : List Shown

-- of one without fields, and of one with a field that is a number
abbrev pub alone : ℕ → Words
alone n = record { number = n; fields = [] }

abbrev pub with_number : ℕ → List ℕ → ℕ → Words
with_number n name value = record { number = n; fields = number name value ∷ [] }

-- Its number, its name, and each field with its name, with spaces (32) between them.
abbrev pub field_text : Shown → List ℕ
field_text f = 32 ∷ (f.name ++ 32 ∷ f.value)

abbrev pub words_text : Words → List ℕ
words_text w = decimal w.number ++ 32 ∷ (name_of w.number ++ flat_map field_text w.fields)

-- the faults inside it, each behind a colon
abbrev pub inside_text : List Words → List ℕ
inside_text faults = flat_map (λ w. codes ": " ++ words_text w) faults

-- a fault, and those inside it
abbrev pub refusal_text : List Words → List ℕ
refusal_text [] = []
refusal_text (w ∷ inside) = words_text w ++ inside_text inside
