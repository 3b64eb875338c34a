-- What a refusal of the program says.
use Rattle.std.specs.Prelude.{ℕ, Bool, true, false, List, [], ◌∷◌}
use Rattle.std.specs.Fmt.{decimal}
use Rattle.awari_faults.specs.Refusals.{Shown, Words}
use Rattle.awari_faults.specs.declared.refusals.Field.{Field}
use Rattle.awari_faults.specs.declared.refusals.Fields.{Fields}
use Rattle.awari_faults.specs.declared.refusals.Fields.TheVariants as listed
use Rattle.awari_faults.specs.declared.refusals.Inside.{Inside}
use Rattle.awari_faults.specs.declared.refusals.Inside.TheVariants as inner
use Rattle.awari_faults.specs.declared.refusals.Refusal.{Refusal}
use Rattle.awari_faults.specs.declared.refusals.Reason.{Reason}
use Rattle.awari_faults.specs.declared.refusals.Value.{Value}
use Rattle.awari_faults.specs.declared.refusals.Value.TheVariants as value

-- a value as it is printed, and whether it is a word
abbrev pub value_text : Value → List ℕ
value_text (value.Number n) = decimal n
value_text (value.Word w) = w.now

abbrev pub is_word : Value → Bool
is_word (value.Number n) = false
is_word (value.Word w) = true

-- a field
abbrev pub shown : Field → Shown
shown f = record { name = f.name.now; value = value_text f.value; is_word = is_word f.value }

-- fields, in their order
abbrev pub fields_said : Fields → List Shown
fields_said listed.None = []
fields_said (listed.One f) = shown f ∷ []
fields_said (listed.Two f g) = shown f ∷ shown g ∷ []

-- a fault
abbrev pub reason_said : Reason → Words
reason_said t = record { number = t.number; fields = fields_said t.fields }

-- the faults inside another
abbrev pub inside_said : Inside → List Words
inside_said inner.None = []
inside_said (inner.One t) = reason_said t ∷ []
inside_said (inner.Two t u) = reason_said t ∷ reason_said u ∷ []

-- a fault, and those inside it
abbrev pub said : Refusal → List Words
said r = reason_said r.reason ∷ inside_said r.inside
