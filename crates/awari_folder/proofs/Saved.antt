-- A shelf's files with one level more, and that files are those of one shelf.
use Rattle.std.proofs.Common.{arith, ◌≡◌, ◌≢◌, ◌<◌, ◌≤◌, ◌+◌, ⊎_elim, true, false, eqb, if◌then◌else◌, List, ℕ, zero, suc, [], ◌∷◌, ◌++◌, length, Option, Some, None, Result, Ok, Err, ap, sym, refl, subst, ◌∙◌, length-append}
use Rattle.std.specs.Prelude.{IfOk, IfSome, IsSomeAnd, OnOk}
use Rattle.awari_folder.specs.declared.faults.FolderFault.{FolderFault}
use Rattle.std.proofs.lemmas.Bool.{eq-eqb, eqb-true, false_from_ne_true, cases_lt}
use Rattle.std.proofs.lemmas.Bool.Decides.{eqb_tells}
use Rattle.sha2.specs.Sha256.{sha256}
use Rattle.awari_table.specs.declared.TheConstants.{HIGHEST_LEVEL}
use Rattle.awari_table.specs.declared.images.Image.{Image}
use Rattle.awari_table.specs.Shelves.{Consistent}
use Rattle.awari_file.specs.FileText.{HasFile, body_text, file_text, found_of}
use Rattle.awari_file.proofs.WholeSpell.{told_apart}
use Rattle.awari_folder.specs.NextFile.{IsNextFile}
use Rattle.awari_folder.specs.Contents.{Same, SameBut, Becomes, AreNames, HoldLevels, HoldsIn, IsStored, Stands}
use Rattle.awari_folder.specs.State.{IsOwnDigest, Saves, State, Unchanged}

none_is_some : {A : Type 0} (name : Option (List ℕ)) (bytes : List ℕ) → name ≡ None → name ≡ Some bytes → A
none_is_some name bytes none some = absurd cc

one_longer : (shelf : List Image) (image : Image) → length (shelf ++ image ∷ []) ≡ suc (length shelf)
one_longer shelf image = length-append shelf (image ∷ []) ∙ omega arith

-- Files are held where the names below the level have what they had.
held_still : (old new : ℕ → Option (List ℕ)) (n : ℕ) (shelf : List Image) (digest : List ℕ) → ((i : ℕ) → i < n → new i ≡ old i) → HoldLevels old n shelf digest → HoldLevels new n shelf digest
held_still old new zero shelf digest same held = held
held_still old new (suc n) shelf digest same (lower, below, held, next) = (
  lower,
  below,
  held_still old new n lower below (λ i low. same i (omega (arith, low))) held,
  subst (λ o. IsSomeAnd o (λ bytes. IsNextFile lower below bytes shelf digest)) (sym (same n (omega arith))) next,
)

-- The file of a level that is right over the shelf is its next file.
pub next_file : (shelf : List Image) (below : List ℕ) (image : Image) → Consistent shelf image → HasFile 2 image below
    → IsNextFile shelf below (file_text 2 image below) (shelf ++ image ∷ []) (sha256 (body_text 2 image below))
next_file shelf below image right has = record {
  loaded = found_of 2 image below;
  file = record { has = has; text = refl; digest = refl };
  of_version = refl;
  over = refl;
  ends = refl;
  right = right;
  on_top = refl;
}

-- a name more
abbrev with_name : (ℕ → Option (List ℕ)) → ℕ → List ℕ → ℕ → Option (List ℕ)
with_name names level bytes n = if eqb n level then Some bytes else names n

with_own : (names : ℕ → Option (List ℕ)) (level : ℕ) (bytes : List ℕ) → with_name names level bytes level ≡ Some bytes
with_own names level bytes = rw (eq-eqb level level refl) refl

with_other : (names : ℕ → Option (List ℕ)) (level : ℕ) (bytes : List ℕ) (n : ℕ) → n ≢ level → with_name names level bytes n ≡ names n
with_other names level bytes n other = let differs : eqb n level ≡ false = false_from_ne_true _ (λ e. other (eqb-true _ _ e)) in rw differs refl

named_now : (old new : Stands) (names : ℕ → Option (List ℕ)) (level : ℕ) (bytes : List ℕ) → AreNames old names → SameBut level old new
    → new level ≡ Some (Some bytes) → AreNames new (with_name names level bytes)
named_now old new names level bytes are others own n =
    ⊎_elim (λ same. ap new same.1 ∙ own ∙ ap Some (sym (ap (with_name names level bytes) same.1 ∙ with_own names level bytes)))
    (λ other. others n other.1 ∙ are n ∙ ap Some (sym (with_other names level bytes n other.1)))
    (eqb_tells n level)

becomes_own : (old new : Option (Option (List ℕ))) (name : Option (List ℕ)) (bytes : List ℕ) → old ≡ Some name → Becomes old new (Some bytes) → new ≡ Some (Some bytes)
becomes_own old new name bytes is becomes = subst (λ o. Becomes o new (Some bytes)) is becomes

-- A folder that holds a shelf holds it with a level on top, once the level has its file.
pub holds_more : (old new : Stands) (shelf : List Image) (below : List ℕ) (image : Image) (digest : List ℕ) → HoldsIn old shelf below → Consistent shelf image
    → HasFile 2 image below → SameBut image.level old new → new image.level ≡ Some (Some (file_text 2 image below)) → digest ≡ sha256 (body_text 2 image below)
    → HoldsIn new (shelf ++ image ∷ []) digest
holds_more old new shelf below image digest (names, are, held) right has others own ends =
    let level = image.level in
    let text = file_text 2 image below in
    let after = with_name names level text in
    let at : after (length shelf) ≡ Some text = ap after (sym right.next) ∙ with_own names level text in (
      after,
      named_now old new names level text are others own,
      subst (λ n. HoldLevels after n (shelf ++ image ∷ []) digest) (sym (one_longer shelf image)) (
        shelf,
        below,
        held_still names after (length shelf) shelf below (λ i low. with_other names level text i (λ e. omega (arith, low, e, right.next))) held,
        subst (λ o. IsSomeAnd o (λ bytes. IsNextFile shelf below bytes (shelf ++ image ∷ []) digest)) (sym at)
            (subst (IsNextFile shelf below text (shelf ++ image ∷ [])) (sym ends) (next_file shelf below image right has)),
      ),
    )

becomes_then : (old mid new : Option (Option (List ℕ))) (E : Type 0) (text : List ℕ) → mid ≡ old → IfSome old (λ _. E) → (E → Becomes mid new (Some text)) → Becomes old new (Some text)
becomes_then None mid new E text same known becomes = tt
becomes_then (Some name) mid new E text same known becomes = subst (λ (o : Option (Option (List ℕ))). Becomes o new (Some text)) same (becomes known)

-- A level whose file has its name now.
pub saves_by : (old new : State) (image : Image) (below : List ℕ) → Becomes (old.stands image.level) (new.stands image.level) (Some (file_text 2 image below)) → SameBut image.level old.stands new.stands
    → HasFile 2 image below → Saves image below old new
saves_by old new image below own others has = record {
  own = own;
  next = λ shelf (names, are, held) right.
      holds_more old.stands new.stands shelf below image (sha256 (body_text 2 image below)) (names, are, held) right has others
      (becomes_own (old.stands image.level) (new.stands image.level) (names image.level) (file_text 2 image below) (are image.level) own) refl;
}

-- The same, in place of what stood there before.
pub saves_over : (old mid new : State) (image : Image) (below : List ℕ) (C E : Type 0) (result : Result (List ℕ) FolderFault) → Same old.stands mid.stands → IfSome (old.stands image.level) (λ _. E)
    → OnOk result (C × (E → Becomes (mid.stands image.level) (new.stands image.level) (Some (file_text 2 image below)))) → SameBut image.level mid.stands new.stands → IfOk result (IsOwnDigest image below)
    → OnOk result (Saves image below old new)
saves_over old mid new image below C E (Err fault) same known named others own = tt
saves_over old mid new image below C E (Ok digest) same known named others own =
    saves_by old new image below (becomes_then (old.stands image.level) (mid.stands image.level) (new.stands image.level) E (file_text 2 image below) (same image.level) known named.1)
    (λ n other. others n other ∙ same n) own.0

-- The same of one that was saved after its folder was read.
pub saves_after : (old mid new : State) (image : Image) (below : List ℕ) (result : Result (List ℕ) FolderFault) → Unchanged old mid → OnOk result (Saves image below mid new) → OnOk result (Saves image below old new)
saves_after old mid new image below (Err fault) same saves = tt
saves_after old mid new image below (Ok digest) same saves = record {
  own = subst (λ (o : Option (Option (List ℕ))). Becomes o (new.stands image.level) (Some (file_text 2 image below))) (same.stands image.level) saves.own;
  next = λ shelf (names, are, held). saves.next shelf (names, λ n. same.stands n ∙ are n, held);
}

-- of the file on top
top_of : (lower : List Image) (below : List ℕ) (shelf : List Image) (digest : List ℕ) (name : Option (List ℕ)) → IsSomeAnd name (λ bytes. IsNextFile lower below bytes shelf digest)
    → (image : Image) × (shelf ≡ lower ++ image ∷ []) × Consistent lower image × ((bytes : List ℕ) × (name ≡ Some bytes))
top_of lower below shelf digest None next = absurd next
top_of lower below shelf digest (Some bytes) next = (next.loaded.image, next.on_top, next.right, (bytes, refl))

pub held_length : (names : ℕ → Option (List ℕ)) (n : ℕ) (shelf : List Image) (digest : List ℕ) → HoldLevels names n shelf digest → length shelf ≡ n
held_length names zero shelf digest held = ap length held.0
held_length names (suc n) shelf digest (lower, below, held, next) =
    let top = top_of lower below shelf digest (names n) next in
    ap length top.1 ∙ one_longer lower top.0 ∙ ap suc (held_length names n lower below held)

held_low : (names : ℕ → Option (List ℕ)) (n : ℕ) (shelf : List Image) (digest : List ℕ) → HoldLevels names n shelf digest → n ≤ HIGHEST_LEVEL + 1
held_low names zero shelf digest held = omega arith
held_low names (suc n) shelf digest (lower, below, held, next) =
    let top = top_of lower below shelf digest (names n) next in
    let long = held_length names n lower below held in
    omega (arith, top.2.next, top.2.low, long)

held_there : (names : ℕ → Option (List ℕ)) (n : ℕ) (shelf : List Image) (digest : List ℕ) (i : ℕ) → HoldLevels names n shelf digest → i < n → (bytes : List ℕ) × (names i ≡ Some bytes)
held_there names zero shelf digest i held low = absurd (omega (arith, low))
held_there names (suc n) shelf digest i (lower, below, held, next) low =
    let top = top_of lower below shelf digest (names n) next in
    ⊎_elim (λ same. (top.3.0, ap names same.1 ∙ top.3.1)) (λ other. held_there names n lower below i held (omega (arith, low, other.1))) (eqb_tells i n)

next_is_one : (shelf : List Image) (below bytes : List ℕ) (after other : List Image) (digest end : List ℕ) → IsNextFile shelf below bytes after digest → IsNextFile shelf below bytes other end
    → (other ≡ after) × (end ≡ digest)
next_is_one shelf below bytes after other digest end one two =
    let same = told_apart one.loaded.version two.loaded.version one.loaded.image two.loaded.image one.loaded.below two.loaded.below one.file.has two.file.has (sym one.file.text ∙ two.file.text) in (
      two.on_top ∙ ap (λ image. shelf ++ image ∷ []) (sym same.1) ∙ sym one.on_top,
      two.ends ∙ two.file.digest ∙ rw (← same.0, ← same.1, ← same.2) refl ∙ sym one.file.digest ∙ sym one.ends,
    )

name_is_one : (shelf : List Image) (below : List ℕ) (after other : List Image) (digest end : List ℕ) (name : Option (List ℕ)) → IsSomeAnd name (λ bytes. IsNextFile shelf below bytes after digest)
    → IsSomeAnd name (λ bytes. IsNextFile shelf below bytes other end) → (other ≡ after) × (end ≡ digest)
name_is_one shelf below after other digest end None one two = absurd one
name_is_one shelf below after other digest end (Some bytes) one two = next_is_one shelf below bytes after other digest end one two

pub held_is_one : (names : ℕ → Option (List ℕ)) (n : ℕ) (shelf other : List Image) (digest end : List ℕ) → HoldLevels names n shelf digest → HoldLevels names n other end → (other ≡ shelf) × (end ≡ digest)
held_is_one names zero shelf other digest end one two = (two.0 ∙ sym one.0, two.1 ∙ sym one.1)
held_is_one names (suc n) shelf other digest end (lower, below, held, next) (lesser, under, holds, follows) =
    let same = held_is_one names n lower lesser below under held holds in
    name_is_one lower below shelf other digest end (names n) next
    (subst (λ l. IsSomeAnd (names n) (λ bytes. IsNextFile l below bytes other end)) same.0 (subst (λ d. IsSomeAnd (names n) (λ bytes. IsNextFile lesser d bytes other end)) same.1 follows))

-- A shelf that is stored is not shorter than one that is held.
not_shorter : (names : ℕ → Option (List ℕ)) (shelf other : List Image) (digest end : List ℕ) → IsStored names shelf digest → HoldLevels names (length other) other end → length other ≤ length shelf
not_shorter names shelf other digest end stored held =
    ⊎_elim (λ low.
    let there = held_there names (length other) other end (length shelf) held low in
    ⊎_elim (λ none. none_is_some _ there.0 none there.1) (λ high. absurd (omega (arith, high, low, held_low names (length other) other end held))) stored.end)
    (λ high. high)
    (cases_lt (length shelf) (length other))

pub stored_is_one : (names : ℕ → Option (List ℕ)) (shelf other : List Image) (digest end : List ℕ) → IsStored names shelf digest → IsStored names other end → (other ≡ shelf) × (end ≡ digest)
stored_is_one names shelf other digest end one two =
    let same : length other ≡ length shelf = omega (arith, not_shorter names shelf other digest end one two.levels, not_shorter names other shelf end digest two one.levels) in
    held_is_one names (length shelf) shelf other digest end one.levels (subst (λ n. HoldLevels names n other end) same two.levels)
