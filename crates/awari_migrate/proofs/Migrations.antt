-- Levels that are brought over from one folder to another.
use Rattle.std.proofs.Common.{arith, ◌≡◌, ◌≢◌, ◌<◌, ◌≤◌, ◌+◌, ◌⊎◌, inl, inr, ⊎_elim, List, ℕ, suc, [], ◌∷◌, ◌++◌, length, Option, Some, None, Err, IfSome, ap, sym, refl, subst, ◌∙◌, length-append}
use Rattle.std.specs.Prelude.{IsSomeAnd, replicate}
use Rattle.std.proofs.lemmas.Bool.Decides.{eqb_tells}
use native.Mathlib.Numerals.{unary_clauses}
use Rattle.awari_table.specs.declared.TheConstants.{HIGHEST_LEVEL}
use Rattle.awari_table.specs.declared.images.Image.{Image}
use Rattle.awari_table.specs.Shelves.{Consistent}
use Rattle.awari_verify.specs.declared.verdicts.VerifyFault.{VerifyFault}
use Rattle.awari_file.specs.declared.contents.Loaded.{Loaded}
use Rattle.awari_file.specs.FileText.{IsFileOf, file_text}
use Rattle.awari_folder.specs.declared.faults.FolderFault.{FolderFault}
use Rattle.awari_folder.specs.declared.faults.FolderFault.TheVariants.{Below, File, Open, Verify, Memory, Occupied, Old}
use Rattle.awari_folder.specs.declared.loading.Stored.{Stored}
use Rattle.awari_migrate.specs.declared.migrating.Limits.{Limits}
use Rattle.awari_folder.specs.Contents.{Same, SameBut, LeavesToo, Lacks, OpenIfRefused, OpenIfEither, Refusals, Refuses, TellsRefusal, AreNames, HoldsIn, Stands}
use Rattle.awari_folder.specs.State.{IsOwnIfFree}
use Rattle.awari_migrate.specs.Migration.{IsDueIn, IsMigratedFile, MigrateLevels, CanMigrate, IsMigrationFault, IsStoreFault, IsMigrated, IsFirstMigrationFault, LeavesWhole}
use Rattle.awari_folder.specs.Verifying.{IsMisplaced}
use Rattle.awari_folder.proofs.Placing.{none_older, seal_fails, sealed_file}
use Rattle.awari_file.specs.Sealing.{IsUnsealed}
use Rattle.awari_file.specs.declared.sealing.Unsealed.{Unsealed}

-- ---- a file that is opened

-- what holds of the bytes under a name is a fault of the name
pub fault_of_name : (shelf : List Image) (below : List ℕ) (name other : Option (List ℕ)) (fault : FolderFault)
    → IsSomeAnd name (λ bytes. IsMigrationFault shelf below (Some bytes) other fault) → IsMigrationFault shelf below name other fault
fault_of_name shelf below None other fault h = absurd h
fault_of_name shelf below (Some bytes) other fault h = h

-- ---- a level that is stored

pub holds_same : (old new : Stands) (shelf : List Image) (digest : List ℕ) → Same old new → HoldsIn old shelf digest → HoldsIn new shelf digest
holds_same old new shelf digest same (names, are, held) = (names, λ n. same n ∙ are n, held)

-- ---- all levels

-- How far a migration has come: this many levels, and from there on all names are as they were.
pub record HasCome (names others : ℕ → Option (List ℕ)) (stands : Stands) (n : ℕ) (shelf : List Image) (below : List ℕ) (limits : List Limits) (digest : List ℕ) : Type 0 where
  pub migrated : MigrateLevels names n shelf below limits
  pub free : (i : ℕ) → i < n → others i ≡ None
  pub stored : HoldsIn stands shelf digest
  pub rest : (i : ℕ) → n ≤ i → stands i ≡ Some (others i)

pub come-none : (names others : ℕ → Option (List ℕ)) (stands : Stands) (shelf : List Image) (limits : List Limits) → AreNames stands others → shelf ≡ [] → limits ≡ []
    → HasCome names others stands 0 shelf (replicate 32 0) limits (replicate 32 0)
come-none names others stands shelf limits are none no_limits = record {
  migrated = (none, refl, no_limits);
  free = λ i lt. absurd (omega (arith, lt));
  stored = subst (λ (s : List Image). HoldsIn stands s (replicate 32 0)) (sym none) (others, are, (refl, refl));
  rest = λ i _. are i;
}

free_here : (stand : Option (Option (List ℕ))) (other : Option (List ℕ)) → stand ≡ Some other → IfSome stand (λ o. o ≡ None) → other ≡ None
free_here None other is free = absurd cc
free_here (Some o) other is free = let same : o ≡ other = cc in sym same ∙ free

free_more : (others : ℕ → Option (List ℕ)) (n i : ℕ) → ((k : ℕ) → k < n → others k ≡ None) → others n ≡ None → i < n + 1 → others i ≡ None
free_more others n i free own lt = ⊎_elim (λ e. ap others e.1 ∙ own) (λ e. free i (omega (arith, lt, e.1))) (eqb_tells i n)

pub come-more : (names others : ℕ → Option (List ℕ)) (old new : Stands) (n : ℕ) (shelf : List Image) (below last : List ℕ) (limits : List Limits) (digest end : List ℕ) (image : Image) (more : Limits)
    → HasCome names others old n shelf below limits digest → IsSomeAnd (names n) (λ bytes. IsMigratedFile shelf below bytes image last more)
    → IfSome (old n) (λ other. other ≡ None) → SameBut n old new → HoldsIn new (shelf ++ image ∷ []) end
    → HasCome names others new (n + 1) (shelf ++ image ∷ []) last (limits ++ more ∷ []) end
come-more names others old new n shelf below last limits digest end image more come next free same stored = record {
  migrated = let migrated : MigrateLevels names (suc n) (shelf ++ image ∷ []) last (limits ++ more ∷ []) = (shelf, below, limits, image, more, come.migrated, next, refl, refl) in simp unary_clauses migrated;
  free = λ i lt. free_more others n i come.free (free_here (old n) (others n) (come.rest n (omega arith)) free) lt;
  stored = stored;
  rest = λ i le. same i (λ e. omega (arith, le, e)) ∙ come.rest i (omega (arith, le));
}

one_longer : (shelf : List Image) (image : Image) → length (shelf ++ image ∷ []) ≡ length shelf + 1
one_longer shelf image = length-append shelf (image ∷ [])

pub longer : (shelf after : List Image) (image : Image) (n : ℕ) → length shelf ≡ n → after ≡ shelf ++ image ∷ [] → length after ≡ n + 1
longer shelf after image n long is = ap length is ∙ one_longer shelf image ∙ ap (λ k. k + 1) long

-- The same of a level that was stored, and put on top.
pub come-next : (names others : ℕ → Option (List ℕ)) (old new : Stands) (n : ℕ) (shelf after : List Image) (below last : List ℕ) (limits all : List Limits) (digest end : List ℕ) (image put : Image) (more : Limits)
    → length shelf ≡ n → put ≡ image → Consistent shelf image → HasCome names others old n shelf below limits digest
    → IsSomeAnd (names (length shelf)) (λ bytes. IsMigratedFile shelf below bytes image last more) → IfSome (old put.level) (λ other. other ≡ None) → SameBut put.level old new
    → ((s : List Image) → HoldsIn old s digest → Consistent s put → HoldsIn new (s ++ put ∷ []) end) → after ≡ shelf ++ image ∷ [] → all ≡ limits ++ more ∷ []
    → HasCome names others new (n + 1) after last all end
come-next names others old new n shelf after below last limits all digest end image put more long same right come next free others_same stored after_is all_is =
    let level : put.level ≡ n = ap (λ (i : Image). i.level) same ∙ right.next ∙ long in
    let holds : HoldsIn new (shelf ++ image ∷ []) end = subst (λ (i : Image). HoldsIn new (shelf ++ i ∷ []) end) same (stored shelf come.stored (subst (Consistent shelf) (sym same) right)) in
    let more_come = come-more names others old new n shelf below last limits digest end image more come (subst (λ (k : ℕ). IsSomeAnd (names k) (λ bytes. IsMigratedFile shelf below bytes image last more)) long next)
    (subst (λ (k : ℕ). IfSome (old k) (λ other. other ≡ None)) level free) (subst (λ (k : ℕ). SameBut k old new) level others_same) holds in
    subst (λ (ls : List Limits). HasCome names others new (n + 1) after last ls end) (sym all_is)
    (subst (λ (s : List Image). HasCome names others new (n + 1) s last (limits ++ more ∷ []) end) (sym after_is) more_come)

-- a level that can be brought over and is not stored
pub migration_fault : (shelf : List Image) (below : List ℕ) (name other : Option (List ℕ)) (number : ℕ) (fault : FolderFault) → number ≡ length shelf → IsSomeAnd name (CanMigrate shelf below)
    → IsStoreFault number other fault → IsMigrationFault shelf below name other fault
migration_fault shelf below name other number (Below level) is can h = absurd h
migration_fault shelf below name other number (File level fault) is can h = (h.0 ∙ is, inr (can, h.1, h.2))
migration_fault shelf below name other number (Open level) is can h = h ∙ is
migration_fault shelf below name other number (Verify level fault) is can h = absurd h
migration_fault shelf below name other number Memory is can h = tt
migration_fault shelf below name other number (Occupied level) is can h = (h.0 ∙ is, can, h.1)
migration_fault shelf below name other number (Old level) is can h = absurd h

-- ---- refusals

pub over_another : (bytes : List ℕ) (shelf : List Image) (below : List ℕ) (other : Option (List ℕ)) (level : ℕ) (loaded : Loaded) → level ≡ length shelf
    → IsFileOf bytes loaded → loaded.below ≢ below → IsMigrationFault shelf below (Some bytes) other (Below level)
over_another bytes shelf below other level loaded is found another = (is, (loaded.version, record { loaded = loaded; file = found; of_version = refl; another = another }))

pub wrong_level : (bytes : List ℕ) (shelf : List Image) (below : List ℕ) (other : Option (List ℕ)) (level : ℕ) (loaded : Loaded) (fault : VerifyFault) → level ≡ length shelf
    → IsFileOf bytes loaded → loaded.below ≡ below → IsDueIn loaded.version shelf loaded.image fault
    → IsMigrationFault shelf below (Some bytes) other (Verify level fault)
wrong_level bytes shelf below other level loaded fault is found over due = (is, (loaded.version, record { loaded = loaded; file = found; of_version = refl; over = over; wrong = due }))

-- a file that is misplaced is not to be brought over
pub misplaced_migration : (shelf : List Image) (below : List ℕ) (file : Unsealed) (level : ℕ) (fault : FolderFault) (bytes : List ℕ) (known other : Option (List ℕ)) → level ≡ length shelf → IsUnsealed file bytes known
    → IsMisplaced level 1 below file fault → IsMigrationFault shelf below (Some bytes) other fault
misplaced_migration shelf below file level (Below number) bytes known other here is (same, sealed, late, another) = over_another bytes shelf below other number file.loaded (same ∙ here) (sealed_file file bytes known is sealed) another
misplaced_migration shelf below file level (File number fault) bytes known other here is (same, wrong) = (same ∙ here, inl (seal_fails file bytes known fault is wrong))
misplaced_migration shelf below file level (Open number) bytes known other here is never = absurd never
misplaced_migration shelf below file level (Verify number fault) bytes known other here is never = absurd never
misplaced_migration shelf below file level Memory bytes known other here is never = absurd never
misplaced_migration shelf below file level (Occupied number) bytes known other here is never = absurd never
misplaced_migration shelf below file level (Old number) bytes known other here is (same, sealed, early) = absurd (none_older file.loaded.version is.has.known early)

-- ---- files that stay

stays_free : (stand : Option (Option (List ℕ))) (bytes : List ℕ) → stand ≡ Some (Some bytes) → IfSome stand (λ other. other ≡ None) → ⊥
stays_free None bytes is free = absurd cc
stays_free (Some other) bytes is free = let has : other ≡ Some bytes = cc in absurd cc

-- no room, before any level
pub memory_first : (names others : ℕ → Option (List ℕ)) (stands : Stands) → AreNames stands others → IsFirstMigrationFault names others stands Memory
memory_first names others stands are = record {
  level = 0;
  shelf = [];
  below = replicate 32 0;
  limits = [];
  digest = replicate 32 0;
  migrated = (refl, refl, refl);
  free = λ i lt. absurd (omega (arith, lt));
  stored = (others, are, (refl, refl));
  rest = λ i _. are i;
  here = tt;
}

-- a fault of the next level
pub fault_first : (names others : ℕ → Option (List ℕ)) (stands : Stands) (n : ℕ) (shelf : List Image) (below : List ℕ) (limits : List Limits) (digest : List ℕ) (fault : FolderFault)
    → length shelf ≡ n → HasCome names others stands n shelf below limits digest → IsMigrationFault shelf below (names (length shelf)) (others (length shelf)) fault → IsFirstMigrationFault names others stands fault
fault_first names others stands n shelf below limits digest fault long come here = record {
  level = n;
  shelf = shelf;
  below = below;
  limits = limits;
  digest = digest;
  migrated = come.migrated;
  free = come.free;
  stored = come.stored;
  rest = come.rest;
  here = subst (λ (k : ℕ). IsMigrationFault shelf below (names k) (others k) fault) long here;
}

can_migrate : (name : Option (List ℕ)) (shelf : List Image) (below : List ℕ) (image : Image) (digest : List ℕ) (limits : Limits) → IsSomeAnd name (λ bytes. IsMigratedFile shelf below bytes image digest limits)
    → IsSomeAnd name (CanMigrate shelf below)
can_migrate None shelf below image digest limits migrated = absurd migrated
can_migrate (Some bytes) shelf below image digest limits migrated = record { image = image; digest = digest; limits = limits; migrated = migrated }

stored_at : (stand : Option (Option (List ℕ))) (other : Option (List ℕ)) (number : ℕ) (fault : FolderFault) → stand ≡ Some other → IfSome stand (λ o. IsStoreFault number o fault) → IsStoreFault number other fault
stored_at None other number fault is h = absurd cc
stored_at (Some o) other number fault is h = let same : o ≡ other = cc in subst (λ (p : Option (List ℕ)). IsStoreFault number p fault) same h

-- a fault of the next level, once it was brought over
pub store_first : (names others : ℕ → Option (List ℕ)) (old new : Stands) (n : ℕ) (shelf : List Image) (below last : List ℕ) (limits : List Limits) (digest : List ℕ) (image put : Image) (more : Limits) (fault : FolderFault)
    → length shelf ≡ n → put ≡ image → HasCome names others old n shelf below limits digest → IsSomeAnd (names (length shelf)) (λ bytes. IsMigratedFile shelf below bytes image last more) → Consistent shelf image
    → IfSome (old put.level) (λ other. IsStoreFault put.level other fault) → Same old new → IsFirstMigrationFault names others new fault
store_first names others old new n shelf below last limits digest image put more fault long is come next right h same =
    let level : put.level ≡ length shelf = ap (λ (i : Image). i.level) is ∙ right.next in
    let at : others put.level ≡ others (length shelf) = ap others level in
    let due : IsStoreFault put.level (others put.level) fault = stored_at (old put.level) (others put.level) put.level fault (come.rest put.level (omega (arith, level, long))) h in
    let kept : HasCome names others new n shelf below limits digest = record { migrated = come.migrated; free = come.free; stored = holds_same old new shelf digest same come.stored; rest = λ i le. same i ∙ come.rest i le } in
    fault_first names others new n shelf below limits digest fault long kept
    (migration_fault shelf below (names (length shelf)) (others (length shelf)) put.level fault level (can_migrate (names (length shelf)) shelf below image last more next) (subst (λ (o : Option (List ℕ)). IsStoreFault put.level o fault) at due))

-- the end of a migration
pub come_end : (names others : ℕ → Option (List ℕ)) (stands : Stands) (n : ℕ) (shelf : List Image) (below : List ℕ) (limits : List Limits) (digest : List ℕ)
    → length shelf ≡ n → HasCome names others stands n shelf below limits digest → (names (length shelf) ≡ None) ⊎ (HIGHEST_LEVEL < length shelf) → IsMigrated names others stands limits digest
come_end names others stands n shelf below limits digest long come end = record {
  shelf = shelf;
  last = below;
  migrated = subst (λ (k : ℕ). MigrateLevels names k shelf below limits) (sym long) come.migrated;
  end = end;
  free = subst (λ (k : ℕ). (i : ℕ) → i < k → others i ≡ None) (sym long) come.free;
  stored = come.stored;
  rest = subst (λ (k : ℕ). (i : ℕ) → k ≤ i → stands i ≡ Some (others i)) (sym long) come.rest;
}

-- ---- calls that are refused

pub either_first : (fault : FolderFault) (old mid new other other_new : Refusals) → OpenIfRefused {T = Stored} (Err fault) mid new → mid ≡ old → other_new ≡ other
    → OpenIfEither {T = Stored} (Err fault) old new other other_new
either_first (Below level) old mid new other other_new told same others = (told ∙ same, others)
either_first (File level fault) old mid new other other_new told same others = (told ∙ same, others)
either_first (Open level) old mid new other other_new told same others = inl (subst (λ (n : Refusals). Refuses n new) same told)
either_first (Verify level fault) old mid new other other_new told same others = (told ∙ same, others)
either_first Memory old mid new other other_new told same others = (⊎_elim (λ e. inl (e ∙ same)) (λ l. inr (subst (λ (n : Refusals). Lacks n new) same l)) told, inl others)
either_first (Occupied level) old mid new other other_new told same others = (told ∙ same, others)
either_first (Old level) old mid new other other_new told same others = (told ∙ same, others)

pub either_second : (fault : FolderFault) (old new other mid other_new : Refusals) → TellsRefusal {T = Stored} (Err fault) mid other_new → mid ≡ other → new ≡ old
    → OpenIfEither {T = Stored} (Err fault) old new other other_new
either_second (Below level) old new other mid other_new told same first = (first, told ∙ same)
either_second (File level fault) old new other mid other_new told same first = (first, told ∙ same)
either_second (Open level) old new other mid other_new told same first = inr (subst (λ (n : Refusals). Refuses n other_new) same told)
either_second (Verify level fault) old new other mid other_new told same first = (first, told ∙ same)
either_second Memory old new other mid other_new told same first = (inl first, inr (subst (λ (n : Refusals). Lacks n other_new) same told))
either_second (Occupied level) old new other mid other_new told same first = (first, told ∙ same)
either_second (Old level) old new other mid other_new told same first = (first, told ∙ same)

-- ---- what a crash may leave

leaves_of : (stand : Option (Option (List ℕ))) (other : Option (List ℕ)) (before after : ℕ → Option (List ℕ) → Type 0) (level : ℕ) (text : List ℕ) → stand ≡ Some other
    → IfSome stand (λ o. LeavesToo level (λ left. (o ≡ None) × (left ≡ Some text)) before after) → LeavesToo level (λ left. (other ≡ None) × (left ≡ Some text)) before after
leaves_of None other before after level text is leaves = absurd cc
leaves_of (Some o) other before after level text is leaves =
    let same : o ≡ other = cc in subst (λ (p : Option (List ℕ)). LeavesToo level (λ left. (p ≡ None) × (left ≡ Some text)) before after) same leaves

-- one level more
pub leaves-more : (others : ℕ → Option (List ℕ)) (stands : Stands) (first before after : ℕ → Option (List ℕ) → Type 0) (image : Image) (below : List ℕ) → stands image.level ≡ Some (others image.level)
    → LeavesWhole others first before → IfSome (stands image.level) (λ o. LeavesToo image.level (IsOwnIfFree image below o) before after) → LeavesWhole others first after
leaves-more others stands first before after image below is whole leaves n left end =
    let one = leaves_of (stands image.level) (others image.level) before after image.level (file_text 2 image below) is leaves in
    ⊎_elim (λ l. whole n left l) (λ r. inr (ap others r.0 ∙ r.1.0, (image, below, r.1.1))) (one n left end)

-- names that were as they had been, before a level more
pub rest-more : (others : ℕ → Option (List ℕ)) (old new : Stands) (n level : ℕ) → level ≡ n → SameBut level old new → ((i : ℕ) → n ≤ i → old i ≡ Some (others i))
    → (i : ℕ) → n + 1 ≤ i → new i ≡ Some (others i)
rest-more others old new n level is same rest i le = same i (λ e. omega (arith, le, e, is)) ∙ rest i (omega (arith, le))
