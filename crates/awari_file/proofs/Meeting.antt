-- A reader has bytes next: one piece, and then another.
use Rattle.std.proofs.Common.{◌≡◌, ℕ, Bool, true, false, List, [], ◌∷◌, ◌++◌, length, take, Option, Some, None, refl, sym, ap, ◌∙◌, append_assoc, append-nil, arith, subst, length-append}
use Rattle.std.specs.Prelude.{◌<◌, ◌↔◌, IsSome}
use Rattle.std.specs.Io.KnownBytes.{Consumes, IsAtEnd}
use Rattle.std.proofs.lemmas.List.{append_cancel_left, take_at}
use Rattle.awari_file.specs.declared.faults.FileFault.{FileFault}
use Rattle.awari_file.specs.declared.faults.FileFault.TheVariants as faults
use Rattle.awari_file.specs.Source.{IsWhy, Meets}
use Rattle.awari_file.proofs.Steps.{consumes_some}

-- ---- a piece

-- a reader that has fewer bytes left does not have these next
too_few : (left front bytes rest more : List ℕ) → left ≡ front ++ rest → rest ≡ [] → length front < length bytes → left ≡ bytes ++ more → ⊥
too_few left front bytes rest more parts none few is =
    let long : length (front ++ []) ≡ length (bytes ++ more) = ap (λ (r : List ℕ). length (front ++ r)) (sym none) ∙ ap length (sym parts) ∙ ap length is in
    omega (arith, long, length-append front [], length-append bytes more, few)

end_left : (known : Option (List ℕ)) (rest : List ℕ) → known ≡ Some rest → IsAtEnd known → rest ≡ []
end_left None rest is end = absurd cc
end_left (Some xs) rest is end = let same : xs ≡ rest = cc in sym same ∙ end

pub short_of : (left front bytes : List ℕ) (old new : Option (List ℕ)) → old ≡ Some left → Consumes old new front → IsAtEnd new → length front < length bytes → Meets false left new bytes
short_of left front bytes old new known took end few more is =
    let (rest, new-is, parts) = consumes_some old new left front known took in
    too_few left front bytes rest more parts (end_left new rest new-is end) few is

pub met_if : (met : Bool) (left front bytes : List ℕ) (old new : Option (List ℕ)) → old ≡ Some left → Consumes old new front → length front ≡ length bytes → (met ≡ true → front ≡ bytes) → (met ≡ false → front ≡ bytes → ⊥)
    → Meets met left new bytes
met_if true left front bytes old new known took size same other =
    let (rest, new-is, parts) = consumes_some old new left front known took in
    (rest, new-is, parts ∙ ap (λ (f : List ℕ). f ++ rest) (same refl))
met_if false left front bytes old new known took size same other = λ more is.
    let (rest, new-is, parts) = consumes_some old new left front known took in
    other refl (sym (take_at front rest (length front) refl) ∙ ap (take (length front)) (sym parts ∙ is) ∙ take_at bytes more (length front) (sym size))

-- ---- the end

pub at_end : (left : List ℕ) (front : List ℕ) (old new : Option (List ℕ)) → old ≡ Some left → Consumes old new front → IsAtEnd new → length front < 1 → left ≡ []
at_end left front old new known took end few =
    let (rest, new-is, parts) = consumes_some old new left front known took in
    no_bytes left front rest parts (end_left new rest new-is end) few
  where
    no_bytes : (left front rest : List ℕ) → left ≡ front ++ rest → rest ≡ [] → length front < 1 → left ≡ []
    no_bytes left [] rest parts none few = parts ∙ none
    no_bytes left (x ∷ xs) rest parts none few = absurd (omega (arith, few))

-- ---- pieces one after the other

-- they are met so far
pub met_more : (left a b : List ℕ) (mid new : Option (List ℕ)) → Meets true left mid a → ((rest : List ℕ) → mid ≡ Some rest → Meets true rest new b) → Meets true left new (a ++ b)
met_more left a b mid new (rest, known, parts) next =
    let (last, known2, parts2) = next rest known in
    (last, known2, parts ∙ ap (λ (l : List ℕ). a ++ l) parts2 ∙ sym (append_assoc a b last))

-- the next is not met
pub met_no_more : (left a b c : List ℕ) (mid : Option (List ℕ)) → Meets true left mid a → ((rest : List ℕ) → mid ≡ Some rest → (more : List ℕ) → rest ≡ b ++ more → ⊥) → (more : List ℕ) → left ≡ (a ++ (b ++ c)) ++ more → ⊥
met_no_more left a b c mid (rest, known, parts) next more is =
    next rest known (c ++ more) (append_cancel_left a rest (b ++ (c ++ more)) (sym parts ∙ is ∙ append_assoc a (b ++ c) more ∙ ap (λ (l : List ℕ). a ++ l) (append_assoc b c more)))

-- a test that came out so, and bytes that are those
pub met_as : (met so : Bool) (left a b : List ℕ) (known : Option (List ℕ)) → met ≡ so → a ≡ b → Meets met left known a → Meets so left known b
met_as met so left a b known test same meets = subst (λ (m : Bool). Meets m left known b) test (subst (Meets met left known) same meets)

-- ---- a file

pub not_first : (left a b c : List ℕ) → ((more : List ℕ) → left ≡ a ++ more → ⊥) → left ≡ (a ++ b) ++ c → ⊥
not_first left a b c other is = other (b ++ c) (is ∙ append_assoc a b c)

pub not_second : (left a b c : List ℕ) (mid : Option (List ℕ)) → Meets true left mid a → ((rest : List ℕ) → mid ≡ Some rest → (more : List ℕ) → rest ≡ b ++ more → ⊥) → left ≡ (a ++ b) ++ c → ⊥
not_second left a b c mid (rest, mid-is, parts) other is =
    other rest mid-is c (append_cancel_left a rest (b ++ c) (sym parts ∙ is ∙ append_assoc a b c))

pub not_third : (left a b c : List ℕ) (mid : Option (List ℕ)) → Meets true left mid (a ++ b) → ((rest : List ℕ) → mid ≡ Some rest → (more : List ℕ) → rest ≡ c ++ more → ⊥) → left ≡ (a ++ b) ++ c → ⊥
not_third left a b c mid (rest, mid-is, parts) other is =
    other rest mid-is [] (append_cancel_left (a ++ b) rest (c ++ []) (sym parts ∙ is ∙ ap (λ (l : List ℕ). (a ++ b) ++ l) (sym (append-nil c))))

pub not_fourth : (left body c : List ℕ) (known : Option (List ℕ)) → Meets true left known (body ++ c) → ((rest : List ℕ) → known ≡ Some rest → rest ≡ [] → ⊥) → left ≡ body ++ c → ⊥
not_fourth left body c known (rest, known-is, parts) more is =
    more rest known-is (append_cancel_left (body ++ c) rest [] (sym parts ∙ is ∙ sym (append-nil (body ++ c))))

pub all_met : (left body c : List ℕ) (known : Option (List ℕ)) → Meets true left known (body ++ c) → ((rest : List ℕ) → known ≡ Some rest → rest ≡ []) → left ≡ body ++ c
all_met left body c known (rest, known-is, parts) none = parts ∙ ap (λ (r : List ℕ). (body ++ c) ++ r) (none rest known-is) ∙ append-nil (body ++ c)

abbrev no_digest : Option (List ℕ)
no_digest = None

pub none_if : (P : Type 0) → (P → ⊥) → IsSome no_digest ↔ P
none_if P not = (λ some. absurd cc, λ is. absurd (not is))

pub some_if : (digest : List ℕ) (P : Type 0) → P → IsSome (Some digest) ↔ P
some_if digest P holds = (λ _. holds, λ _. refl)

-- the input ended where no fault was answered
pub ended : (s : FileFault) (known : Option (List ℕ)) (old new : ℕ) → IsWhy s known old new → (s ≡ faults.Read → ⊥) → IsAtEnd known
ended faults.Truncated known old new why calm = why
ended faults.Read known old new why calm = absurd (calm refl)
ended faults.Magic known old new why calm = absurd why
ended faults.Version known old new why calm = absurd why
ended faults.LevelOutOfRange known old new why calm = absurd why
ended faults.Count known old new why calm = absurd why
ended faults.EntryForm known old new why calm = absurd why
ended faults.Digest known old new why calm = absurd why
ended faults.Trailing known old new why calm = absurd why
ended faults.Memory known old new why calm = absurd why
ended faults.Write known old new why calm = absurd why

pub not_both : (b : Bool) → b ≡ true → b ≡ false → ⊥
not_both b yes_is no_is = cc
