-- The files of levels with the lowest plans are the same in every folder.
use Rattle.std.proofs.Common.{◌≡◌, ℕ, zero, suc, ◌<◌, List, [], ◌∷◌, ◌++◌, length, Option, Some, None, refl, sym, ap, ◌∙◌, subst, arith, ⊎_elim}
use Rattle.std.specs.Prelude.{IsSomeAnd}
use Rattle.std.proofs.lemmas.List.{same_from_push}
use Rattle.std.proofs.lemmas.Bool.Decides.{eqb_tells}
use Rattle.awari_file.specs.FileText.{file_text}
use Rattle.awari_folder.specs.Contents.{HoldLevels, Holds}
use Rattle.awari_folder.specs.NextFile.{IsNextFile}
use Rattle.awari_play.proofs.Alike.{images_same, shelves_same}
use Rattle.awari_play.specs.Least.{HasLowestPlans, IsPlannedLowest}
use Rattle.awari_table.specs.Shelves.{Consistent, IsShelf}
use Rattle.awari_table.specs.declared.images.Image.{Image}

pub file_same : (version : ℕ) (shelf : List Image) (image other : Image) (below : List ℕ) → IsShelf shelf → Consistent shelf image → Consistent shelf other
    → IsPlannedLowest shelf image → IsPlannedLowest shelf other → file_text version image below ≡ file_text version other below
file_same version shelf image other below is first second mine theirs = ap (λ i. file_text version i below) (images_same shelf image other is first second mine theirs)

-- ---- folders of one shelf

next_same : (shelf : List Image) (below bytes other : List ℕ) (after : List Image) (digest end : List ℕ) → IsNextFile shelf below bytes after digest → IsNextFile shelf below other after end
    → (bytes ≡ other) × (digest ≡ end)
next_same shelf below bytes other after digest end one two =
    let image : one.loaded.image ≡ two.loaded.image = (same_from_push shelf shelf one.loaded.image two.loaded.image (sym one.on_top ∙ two.on_top)).1 in
    let under : one.loaded.below ≡ two.loaded.below = one.over ∙ sym two.over in
    let version : one.loaded.version ≡ two.loaded.version = one.of_version ∙ sym two.of_version in (
      one.file.text ∙ rw (version, image, under) refl ∙ sym two.file.text,
      one.ends ∙ one.file.digest ∙ rw (version, image, under) refl ∙ sym two.file.digest ∙ sym two.ends,
    )

name_same : (shelf : List Image) (below : List ℕ) (after : List Image) (digest end : List ℕ) (name other : Option (List ℕ)) → IsSomeAnd name (λ bytes. IsNextFile shelf below bytes after digest)
    → IsSomeAnd other (λ bytes. IsNextFile shelf below bytes after end) → (name ≡ other) × (digest ≡ end)
name_same shelf below after digest end None other one two = absurd one
name_same shelf below after digest end (Some bytes) None one two = absurd two
name_same shelf below after digest end (Some bytes) (Some same) one two =
    let files = next_same shelf below bytes same after digest end one two in
    (ap Some files.0, files.1)

lower_of : (lower : List Image) (below : List ℕ) (shelf : List Image) (digest : List ℕ) (name : Option (List ℕ)) → IsSomeAnd name (λ bytes. IsNextFile lower below bytes shelf digest)
    → (image : Image) × (shelf ≡ lower ++ image ∷ [])
lower_of lower below shelf digest None next = absurd next
lower_of lower below shelf digest (Some bytes) next = (next.loaded.image, next.on_top)

held_same : (names others : ℕ → Option (List ℕ)) (n : ℕ) (shelf other : List Image) (digest end : List ℕ) → shelf ≡ other → HoldLevels names n shelf digest → HoldLevels others n other end
    → (digest ≡ end) × ((i : ℕ) → i < n → names i ≡ others i)
held_same names others zero shelf other digest end same one two = (one.1 ∙ sym two.1, λ i low. absurd (omega (arith, low)))
held_same names others (suc n) shelf other digest end same (lower, below, held, next) (lesser, under, holds, follows) =
    let (image, put) = lower_of lower below shelf digest (names n) next in
    let (level, laid) = lower_of lesser under other end (others n) follows in
    let low : lower ≡ lesser = (same_from_push lower lesser image level (sym put ∙ same ∙ laid)).0 in
    let rest = held_same names others n lower lesser below under low held holds in
    let moved : IsSomeAnd (others n) (λ bytes. IsNextFile lower below bytes shelf end) =
    subst (λ l. IsSomeAnd (others n) (λ bytes. IsNextFile l below bytes shelf end)) (sym low)
    (subst (λ d. IsSomeAnd (others n) (λ bytes. IsNextFile lesser d bytes shelf end)) (sym rest.0)
    (subst (λ s. IsSomeAnd (others n) (λ bytes. IsNextFile lesser under bytes s end)) (sym same) follows)) in
    let top = name_same lower below shelf digest end (names n) (others n) next moved in (
      top.1,
      λ i within. ⊎_elim (λ here. ap names here.1 ∙ top.0 ∙ sym (ap others here.1)) (λ there. rest.1 i (omega (arith, within, there.1))) (eqb_tells i n),
    )

pub folder_same : (names others : ℕ → Option (List ℕ)) (levels images : List Image) (digest end : List ℕ) → IsShelf levels → IsShelf images
    → Holds names levels digest → Holds others images end → length levels ≡ length images → HasLowestPlans levels → HasLowestPlans images
    → (digest ≡ end) × ((n : ℕ) → n < length levels → names n ≡ others n)
folder_same names others levels images digest end is are held holds size mine theirs =
    held_same names others (length levels) levels images digest end (shelves_same levels images is are size mine theirs) held
    (subst (λ n. HoldLevels others n images end) (sym size) holds)
