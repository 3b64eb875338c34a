-- What is printed of an answer.
use Rattle.std.proofs.Common.{◌≡◌, ℕ, List, ◌∷◌, [], ◌++◌, Option, Some, None, arith}
use Rattle.std.specs.Prelude.{IfSome}
use Rattle.std.specs.Io.KnownBytes.{Appends}
use Rattle.awari_check.specs.declared.answers.Answer.{Answer}
use Rattle.awari_check.specs.declared.answers.Answer.TheVariants.{Yes, Fault, Read}
use Rattle.awari_check.specs.Answer.{answer_text, status_of, IsAnswer, PrintsYes}

pub printed_yes : (answer : Answer) (input before after : Option (List ℕ)) → IfSome input (λ bytes. IsAnswer bytes answer) → Appends before after (answer_text answer ++ 10 ∷ []) → status_of answer ≡ 0 → PrintsYes input before after
printed_yes (Yes levels limit) None before after said written done = tt
printed_yes (Yes levels limit) (Some bytes) before after said written done = (said.0, said.1, rw (said.2, said.3) at written)
printed_yes (Fault fault) input before after said written done = absurd (omega arith)
printed_yes Read input before after said written done = absurd (omega arith)
