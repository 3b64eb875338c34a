-- What the program prints, and the status that it ends with.
use Rattle.std.specs.Prelude.{◌≡◌, ℕ, List, ◌++◌, ⊤, length, codes, ◌∷◌, [], Option, IfSome}
use Rattle.std.specs.Fmt.{decimal}
use Rattle.std.specs.Io.KnownBytes.{Appends}
use Rattle.awari_faults.specs.Refusals.{alone, words_text}
use Rattle.awari_table.specs.declared.images.Image.{Image}
use Rattle.awari_table.specs.declared.faults.TableFault.TheVariants.{Memory}
use Rattle.awari_table.specs.Images.{greatest_limit}
use Rattle.awari_table.specs.TableFault.{reason_of as table_reason_of}
use Rattle.awari_verify.specs.declared.verdicts.VerifyFault.TheVariants.{Refused}
use Rattle.awari_verify.specs.Rule.{rule_name}
use Rattle.awari_verify.specs.VerifyFault.{reason_of as verify_reason_of}
use Rattle.awari_check.specs.declared.checks.CheckFault.{CheckFault}
use Rattle.awari_check.specs.declared.checks.CheckFault.TheVariants.{Table, Verify}
use Rattle.awari_check.specs.declared.answers.Answer.{Answer}
use Rattle.awari_check.specs.declared.answers.Answer.TheVariants.{Yes, Fault, Read}
use Rattle.awari_check.specs.CheckFault.{IsShelfText, IsCheckFault}

-- a level that breaks a rule is told as a no, and whatever else is at fault as a refusal
abbrev pub check_text : CheckFault → List ℕ
check_text (Verify level (Refused rank rule)) = codes "no level " ++ decimal level ++ codes " rank " ++ decimal rank ++ codes " rule " ++ rule_name rule
check_text (Verify level fault) = codes "refused " ++ words_text (verify_reason_of fault)
check_text (Table fault) = codes "refused " ++ words_text (table_reason_of fault)

abbrev pub answer_text : Answer → List ℕ
answer_text (Yes levels limit) = codes "yes levels " ++ decimal levels ++ codes " limit " ++ decimal limit
answer_text (Fault fault) = check_text fault
answer_text Read = codes "refused " ++ words_text (alone 14)

-- 0 for a yes, and 1 for a no or a refusal
abbrev pub status_of : Answer → ℕ
status_of (Yes levels limit) = 0
status_of (Fault fault) = 1
status_of Read = 1

-- The answer is right for the bytes: a yes where they are the text of tables that are right, with their number and their
-- greatest limit; a fault where it is the first one, or want of memory. Where the bytes could not be read, nothing is said of them.
abbrev pub IsAnswer : List ℕ → Answer → Type 0
IsAnswer bytes (Yes levels limit) = (images : List Image) × IsShelfText bytes images × (levels ≡ length images) × (limit ≡ greatest_limit images)
IsAnswer bytes (Fault (Table Memory)) = ⊤
IsAnswer bytes (Fault fault) = IsCheckFault bytes fault
IsAnswer bytes Read = ⊤

-- Where it is known what a reader had left and what a writer holds: that input is the text of tables that are right, and the
-- yes for them, ended by a line feed, is what was written.
abbrev pub PrintsYes : Option (List ℕ) → Option (List ℕ) → Option (List ℕ) → Type 0
PrintsYes input before after = IfSome input (λ bytes. (images : List Image) × IsShelfText bytes images
    × Appends before after (answer_text (Yes (length images) (greatest_limit images)) ++ 10 ∷ []))
