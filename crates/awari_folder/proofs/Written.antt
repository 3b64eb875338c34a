-- What was appended to an empty file, and then brought to the disk, is the whole of it.
use Rattle.std.proofs.Common.{rules, ap, ◌∙◌, ◌≡◌, List, ℕ, [], Option, Some, None, IfSome, subst}
use Rattle.std.specs.Io.KnownBytes.{Appends}
use Rattle.awari_folder.specs.Contents.{IsWhole}

whole : (old mid new kept : Option (List ℕ)) (text : List ℕ) → old ≡ Some [] → Appends old mid text → IfSome mid (λ bytes. IsWhole new kept bytes) → IsWhole new kept text
whole None mid new kept text h a k = search rules
whole (Some xs) None new kept text h a k = absurd a
whole (Some xs) (Some ys) new kept text h a k = let none : xs ≡ [] = search rules in let e : ys ≡ text = search rules in subst (IsWhole new kept) e k

-- the same, of a file that was lent to its writer by value
pub whole_of : {D : Type 0} (contents kept : D → Option (List ℕ)) (given start written back after : D) (text : List ℕ) → start ≡ given → back ≡ written
    → contents given ≡ Some [] → Appends (contents start) (contents written) text → IfSome (contents back) (λ bytes. IsWhole (contents after) (kept after) bytes)
    → IsWhole (contents after) (kept after) text
whole_of contents kept given start written back after text same returned empty appended synced =
    whole (contents start) (contents written) (contents after) (kept after) text (ap contents same ∙ empty) appended
    (subst (λ d. IfSome (contents d) (λ bytes. IsWhole (contents after) (kept after) bytes)) returned synced)
