-- A folder whose file of a level was kept, and one that has none.
use Rattle.std.proofs.Common.{◌≡◌, ◌∙◌, ℕ, List, Option, Some, None, Result, Ok, Err, ap, refl, subst}
use Rattle.std.specs.Prelude.{IfOk, IfSome, IsSomeAnd, OnOk}
use Rattle.awari_table.specs.declared.images.Image.{Image}
use Rattle.awari_file.specs.FileText.{file_text}
use Rattle.awari_folder.specs.declared.faults.FolderFault.{FolderFault}
use Rattle.awari_folder.specs.Contents.{Becomes, Opens}
use Rattle.awari_folder.specs.State.{IsOwnDigest, Saves, State, Unchanged}
use Rattle.awari_folder.proofs.Opened.{of_name}
use Rattle.awari_folder.proofs.Saved.{saves_by}

some_of : (name : Option (List ℕ)) (text : List ℕ) → IsSomeAnd name (λ bytes. bytes ≡ text) → name ≡ Some text
some_of None text is = absurd is
some_of (Some bytes) text is = ap (λ (b : List ℕ). Some b) is

own_kept : {F : Type 0} (remaining : F → Option (List ℕ)) (stand new : Option (Option (List ℕ))) (lent file : F) (text : List ℕ) → lent ≡ file → Opens remaining stand (Some file) → IfSome (remaining lent) (λ bytes. bytes ≡ text)
    → new ≡ stand → Becomes stand new (Some text)
own_kept remaining None new lent file text lent_is opened own same = tt
own_kept remaining (Some name) new lent file text lent_is opened own same =
    same ∙ ap (λ (n : Option (List ℕ)). Some n) (some_of name text (of_name remaining (Some name) name lent file (λ bytes. bytes ≡ text) lent_is refl opened own))

-- A level is saved, if the file that has its name is the level's.
pub saves_kept : {F : Type 0} (remaining : F → Option (List ℕ)) (old new : State) (number : ℕ) (image : Image) (below : List ℕ) (lent file : F) (result : Result (List ℕ) FolderFault)
    → number ≡ image.level → lent ≡ file → Opens remaining (old.stands number) (Some file) → IfSome (remaining lent) (λ bytes. OnOk result (bytes ≡ file_text 2 image below))
    → IfOk result (IsOwnDigest image below) → Unchanged old new → OnOk result (Saves image below old new)
saves_kept remaining old new number image below lent file (Err fault) is lent_is opened own ends same = tt
saves_kept remaining old new number image below lent file (Ok digest) is lent_is opened own ends same =
    let there = subst (λ n. Opens remaining (old.stands n) (Some file)) is opened in
    saves_by old new image below (own_kept remaining (old.stands image.level) (new.stands image.level) lent file (file_text 2 image below) lent_is there own (same.stands image.level)) (λ n _. same.stands n) ends.0

-- Where no file was opened, none has the name, if that is known.
pub free_if : {F : Type 0} (remaining : F → Option (List ℕ)) (stand : Option (Option (List ℕ))) → Opens remaining stand None → IfSome stand (λ name. name ≡ None)
free_if remaining None opened = tt
free_if remaining (Some None) opened = refl
free_if remaining (Some (Some bytes)) opened = absurd opened
