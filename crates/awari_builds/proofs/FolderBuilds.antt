-- Levels that are built on those of a folder.
use Rattle.std.proofs.Common.{arith, ◌≡◌, ◌<◌, ◌≤◌, ◌+◌, inl, inr, ⊎_elim, List, ℕ, [], ◌∷◌, ◌++◌, length, Option, Some, None, subst, sym, length-append, ap, ◌∙◌}
use Rattle.std.specs.Prelude.{IfSome}
use Rattle.awari_file.specs.FileText.{file_text}
use Rattle.std.specs.Io.KnownBytes.{Appends}
use Rattle.awari_folder.specs.Contents.{AreNames, HoldsIn, IsStoredIn, LeavesNoMore, LeavesToo, Same, KeepsFiles, Stands}
use Rattle.awari_play.specs.Least.{HasLowestPlans}
use Rattle.awari_table.specs.Shelves.{IsShelf}
use Rattle.awari_table.specs.declared.images.Image.{Image}
use Rattle.awari_answers.specs.LevelLines.{level_lines}
use Rattle.awari_builds.specs.Building.{KeepsLevels, PrintsAllLevels, PrintsLevels, SameOutside, LeavesFiles}

name_is : (stand : Option (Option (List ℕ))) (name : Option (List ℕ)) (P : Option (List ℕ) → Type 0) → stand ≡ Some name → IfSome stand P → P name
name_is None name P is holds = absurd cc
name_is (Some other) name P is holds = let same : other ≡ name = cc in subst P same holds

-- What a save may leave is a whole file.
pub files_at : (stands : Stands) (names : ℕ → Option (List ℕ)) (level m : ℕ) (image : Image) (below : List ℕ) (old new : ℕ → Option (List ℕ) → Type 0)
    → level ≡ m → IfSome (stands level) (λ name. LeavesToo level (λ left. (name ≡ None) × (left ≡ Some (file_text 2 image below))) old new) → stands m ≡ Some (names m) → LeavesFiles m names old new
files_at stands names level m image below old new next leaves known n left end =
    let leaves_here = name_is (stands level) (names level) (λ name. LeavesToo level (λ c. (name ≡ None) × (c ≡ Some (file_text 2 image below))) old new) (ap stands next ∙ known ∙ ap (λ k. Some (names k)) (sym next)) leaves in
    ⊎_elim (λ l. inl l) (λ r. inr (omega (arith, r.0, next), ap names r.0 ∙ r.1.0, (image, below, r.1.1))) (leaves_here n left end)

pub more_files : (m k : ℕ) (names : ℕ → Option (List ℕ)) (first old new : ℕ → Option (List ℕ) → Type 0) → m ≤ k → LeavesFiles m names first old → LeavesFiles k names old new → LeavesFiles m names first new
more_files m k names first old new low before after n c left =
    ⊎_elim (λ l. before n c l) (λ r. inr (omega (arith, low, r.0), r.1, r.2)) (after n c left)

pub files_kept : (first old new : Stands) → KeepsFiles first old → KeepsFiles old new → KeepsFiles first new
files_kept first old new before after n bytes is = after n bytes (before n bytes is)

pub longer_by_one : (less : List Image) (image : Image) (shelf : List Image) → shelf ≡ less ++ image ∷ [] → length shelf ≡ length less + 1
longer_by_one less image shelf put = ap length put ∙ length-append less (image ∷ [])

-- What is built on what was loaded, and printed.
pub prints_on : (old mid new : Stands) (top : ℕ) (below shelf : List Image) (under digest : List ℕ) (before after : Option (List ℕ))
    → IsStoredIn old below under → Same old mid → IsShelf shelf × (top < length shelf) → (HoldsIn mid below under → HoldsIn new shelf digest)
    → (HasLowestPlans below → HasLowestPlans shelf)
    → (built : List Image) × (shelf ≡ below ++ built) × Appends before after (level_lines built) → PrintsLevels top old new before after
prints_on old mid new top below shelf under digest before after stored same right holds planned (built, put, lines) = (
  below,
  built,
  subst IsShelf put right.0,
  subst (λ xs. top < length xs) put right.1,
  (λ names are. (
    under,
    digest,
    stored names are,
    subst (λ xs. HoldsIn new xs digest) put (holds (names, (λ n. same n ∙ are n), (stored names are).levels)),
  )),
  (λ lowest. subst HasLowestPlans put (planned lowest)),
  lines,
)

pub keeps_on : (old mid new : Stands) (left middle leaves : ℕ → Option (List ℕ) → Type 0) (top : ℕ) (below : List Image) (under : List ℕ)
    → IsStoredIn old below under → Same old mid → LeavesNoMore left middle → SameOutside (length below) top mid new
    → ((names : ℕ → Option (List ℕ)) → AreNames mid names → LeavesFiles (length below) names middle leaves)
    → (names : ℕ → Option (List ℕ)) → AreNames old names → KeepsLevels top names old new left leaves
keeps_on old mid new left middle leaves top below under stored same none outside files names are =
    inr (
      below,
      under,
      stored names are,
      (λ n away. outside n away ∙ same n),
      (λ n end leaving. ⊎_elim (λ l. inl (none n end l)) (λ r. inr r) (files names (λ n. same n ∙ are n) n end leaving)),
    )

-- no level, so no board, has another plan
no_plans : HasLowestPlans []
no_plans = λ p is low. absurd (omega (arith, low))

-- Levels that are built on none, in no folder.
pub prints_all : (top : ℕ) (first shelf : List Image) (before after : Option (List ℕ)) → first ≡ [] → IsShelf shelf × (top < length shelf)
    → (length first ≤ top + 1 → length shelf ≤ top + 1) → (HasLowestPlans first → HasLowestPlans shelf)
    → (built : List Image) × (shelf ≡ first ++ built) × Appends before after (level_lines built) → PrintsAllLevels top before after
prints_all top first shelf before after none right few planned (built, put, lines) =
    let same : shelf ≡ built = put ∙ ap (λ xs. xs ++ built) none in
    let most = few (omega (arith, ap length none)) in
    (built, subst IsShelf same right.0, omega (arith, ap length same, right.1, most), subst HasLowestPlans same (planned (subst HasLowestPlans (sym none) no_plans)), lines)
