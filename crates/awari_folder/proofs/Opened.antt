-- What is known of a file that was opened, and of a fault that is not 82.
use Rattle.std.proofs.Common.{rules, arith, ap, ◌≡◌, ◌∙◌, ◌<◌, ◌≤◌, ◌⊎◌, inl, List, ℕ, Option, Some, None, IfSome, Err, length, refl, subst, sym}
use Rattle.std.specs.Prelude.{IsSomeAnd, IsNone, ◌+◌}
use Rattle.awari_folder.specs.declared.faults.FolderFault.{FolderFault}
use Rattle.awari_folder.specs.declared.faults.FolderFault.TheVariants.{Below, File, Open, Verify, Memory, Occupied, Old}
use Rattle.awari_folder.specs.declared.loading.Stored.{Stored}
use Rattle.awari_table.specs.declared.images.Image.{Image}
use Rattle.awari_folder.specs.NextFile.{IsNextFile}
use Rattle.awari_folder.specs.Contents.{Opens, IsOfFile, OpenIfRefused, Refusals, HoldLevels, IsStoredTo}
use native.Mathlib.Numerals.{unary_clauses}

-- What holds of the bytes of a file that was opened holds of what has the name.
pub of_name : {F : Type 0} (remaining : F → Option (List ℕ)) (stands : Option (Option (List ℕ))) (name : Option (List ℕ)) (lent file : F) (P : List ℕ → Type 0)
    → lent ≡ file → stands ≡ Some name → Opens remaining stands (Some file) → IfSome (remaining lent) P → IsSomeAnd name P
of_name remaining stands None lent file P same known opened holds = let h : IsNone (Some file) = subst (λ s. Opens remaining s (Some file)) known opened in search rules
of_name remaining stands (Some bytes) lent file P same known opened holds =
    let e : remaining lent ≡ Some bytes = ap remaining same ∙ subst (λ s. Opens remaining s (Some file)) known opened in subst (λ o. IfSome o P) e holds

pub not_open : (fault : FolderFault) (old new : Refusals) → IsOfFile fault → new ≡ old → OpenIfRefused {T = Stored} (Err fault) old new
not_open (Below level) old new of_file same = same
not_open (File level fault) old new of_file same = same
not_open (Open level) old new of_file same = absurd of_file
not_open (Verify level fault) old new of_file same = same
not_open Memory old new of_file same = inl same
not_open (Occupied level) old new of_file same = same
not_open (Old level) old new of_file same = same

-- One level more.
pub next_level : (names : ℕ → Option (List ℕ)) (n : ℕ) (lower : List Image) (below : List ℕ) (shelf : List Image) (digest : List ℕ)
    → HoldLevels names n lower below → IsSomeAnd (names n) (λ bytes. IsNextFile lower below bytes shelf digest) → HoldLevels names (n + 1) shelf digest
next_level names n lower below shelf digest held next = simp unary_clauses (lower, below, held, next)

-- Where it was known what has the name, and no file was opened, none has it.
pub of_no_name : {F : Type 0} (remaining : F → Option (List ℕ)) (stands : Option (Option (List ℕ))) (name : Option (List ℕ)) → stands ≡ Some name → Opens remaining stands None → name ≡ None
of_no_name remaining stands None known opened = refl
of_no_name remaining stands (Some bytes) known opened = absurd (subst (λ s. Opens remaining s None) known opened)

-- The levels that are held are those stored, up to the one asked for.
pub stored_to : (most : ℕ) (names : ℕ → Option (List ℕ)) (n : ℕ) (shelf : List Image) (digest : List ℕ) → length shelf ≡ n → HoldLevels names n shelf digest → n ≤ most + 1
    → (names n ≡ None) ⊎ (most < n) → IsStoredTo most names shelf digest
stored_to most names n shelf digest long held few end = record {
  levels = subst (λ k. HoldLevels names k shelf digest) (sym long) held;
  few = omega (arith, long, few);
  end = subst (λ k. (names k ≡ None) ⊎ (most < k)) (sym long) end;
}
