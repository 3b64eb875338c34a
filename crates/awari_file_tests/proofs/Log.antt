-- A log with one file more.
use Rattle.std.proofs.Common.{arith, refl, ◌≡◌, ◌≢◌, inl, inr, ⊎_elim, eqb, true, List, ℕ, [], ◌∷◌, ◌++◌, Some, None, ap, sym, if◌then◌else◌}
use Rattle.std.proofs.lemmas.Bool.{eq-eqb, eqb-true, false_from_ne_true}
use Rattle.awari_file_tests.specs.declared.memory.Put.{Put}
use Rattle.awari_folder.specs.Contents.{IsLeftOf, LeavesToo, LeavesStill}
use Rattle.awari_file_tests.specs.Log.{named, newer, bytes_under, kept_of, MayLeave}

pub named-new : (puts : List Put) (put : Put) → named (puts ++ put ∷ []) put.level ≡ Some put.bytes.items
named-new [] put = ap (λ b. newer None (if b then Some put.bytes.items else None)) (eq-eqb put.level put.level refl)
named-new (first ∷ puts) put = ap (λ o. newer o (bytes_under first put.level)) (named-new puts put)

pub named-other : (puts : List Put) (put : Put) (n : ℕ) → n ≢ put.level → named (puts ++ put ∷ []) n ≡ named puts n
named-other [] put n other = ap (λ b. newer None (if b then Some put.bytes.items else None)) (false_from_ne_true _ (λ e. other (sym (eqb-true _ _ e))))
named-other (first ∷ puts) put n other = ap (λ o. newer o (bytes_under first n)) (named-other puts put n other)

pub leaves-new : (puts : List Put) (put : Put) → LeavesToo put.level (IsLeftOf (kept_of put.synced put.bytes.items)) (MayLeave puts) (MayLeave (puts ++ put ∷ []))
leaves-new [] put n c left = left
leaves-new (first ∷ puts) put n c (inl left) = ⊎_elim (λ l. inl (inl l)) (λ r. inr r) (leaves-new puts put n c left)
leaves-new (first ∷ puts) put n c (inr left) = inl (inr left)

pub leaves-still : (puts : List Put) (put : Put) → LeavesStill (MayLeave puts) (MayLeave (puts ++ put ∷ []))
leaves-still [] put n c left = inl left
leaves-still (first ∷ puts) put n c (inl left) = inl (leaves-still puts put n c left)
leaves-still (first ∷ puts) put n c (inr left) = inr left
