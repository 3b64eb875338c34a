-- A folder that stays as it is.
use Rattle.std.proofs.Common.{◌≡◌, ◌∙◌, ◌⊎◌, inl, inr, ⊎_elim, ℕ, List, Option, Some, None, refl, subst}
use Rattle.std.specs.Prelude.{IfSome, Result}
use Rattle.awari_streams.specs.Counted.{Grew}
use Rattle.awari_folder.specs.declared.faults.FolderFault.{FolderFault}
use Rattle.awari_folder.specs.Contents.{LeavesToo, OpenIfRefused}
use Rattle.awari_folder.specs.State.{DraftsOnly, Leaves, MayName, OnlyReads, State, Unchanged}

pub unchanged : (s : State) → Unchanged s s
unchanged s = record { stands = λ n. refl; crash = λ n c h. h; still = λ n c h. h; clear = λ n h. h; stuck = refl }

pub unchanged_then : (a b c : State) → Unchanged a b → Unchanged b c → Unchanged a c
unchanged_then a b c one two = record {
  stands = λ n. two.stands n ∙ one.stands n;
  crash = λ n o h. one.crash n o (two.crash n o h);
  still = λ n o h. two.still n o (one.still n o h);
  clear = λ n h. two.clear n (one.clear n h);
  stuck = two.stuck ∙ one.stuck;
}

pub only_reads : {T : Type 0} (result : Result T FolderFault) (old new : State) → Unchanged old new → OpenIfRefused result old.refusals new.refusals → OnlyReads result old new
only_reads result old new same refused = record { unchanged = same; refused = refused }

-- ---- what a save leaves

pub drafts_then : (level : ℕ) (P : Option (List ℕ) → Type 0) (a b c : State) → DraftsOnly level a b → MayName level P b c → MayName level P a c
drafts_then level P a b c one two = record {
  others = λ n other. two.others n other ∙ one.stands n;
  crash = λ n o h. ⊎_elim (λ l. inl (one.crash n o l)) (λ r. inr r) (two.crash n o h);
  still = λ n o h. two.still n o (one.still n o h);
  clear = λ n other h. two.clear n other (one.clear n other h);
}

pub then_drafts : (level : ℕ) (P : Option (List ℕ) → Type 0) (a b c : State) → MayName level P a b → DraftsOnly level b c → MayName level P a c
then_drafts level P a b c one two = record {
  others = λ n other. two.stands n ∙ one.others n other;
  crash = λ n o h. one.crash n o (two.crash n o h);
  still = λ n o h. two.still n o (one.still n o h);
  clear = λ n other h. two.clear n other (one.clear n other h);
}

crash_if : (stand : Option (Option (List ℕ))) (level : ℕ) (E : Type 0) (P : Option (List ℕ) → Type 0) (old new : ℕ → Option (List ℕ) → Type 0)
    → LeavesToo level (λ left. E → P left) old new → IfSome stand (λ _. E) → IfSome stand (λ _. LeavesToo level P old new)
crash_if None level E P old new leaves known = tt
crash_if (Some name) level E P old new leaves known = λ n o h. ⊎_elim (λ l. inl l) (λ r. inr (r.0, r.1 known)) (leaves n o h)

-- the same, where what was known held
pub leaves_if : (level : ℕ) (E : Type 0) (P : Option (List ℕ) → Type 0) (old new : State) → MayName level (λ left. E → P left) old new → IfSome (old.stands level) (λ _. E)
    → (old.is_clear level → new.is_clear level ⊎ Grew old.stuck new.stuck) → Leaves level (λ _. P) old new
leaves_if level E P old new may known clear = record {
  others = may.others;
  crash = crash_if (old.stands level) level E P old.may_leave new.may_leave may.crash known;
  still = may.still;
  clear = clear;
  others_clear = may.clear;
}

crash_none : (stand : Option (Option (List ℕ))) (level : ℕ) (P : Option (List ℕ) → Option (List ℕ) → Type 0) (old new : ℕ → Option (List ℕ) → Type 0)
    → ((n : ℕ) (o : Option (List ℕ)) → new n o → old n o) → IfSome stand (λ name. LeavesToo level (P name) old new)
crash_none None level P old new no_more = tt
crash_none (Some name) level P old new no_more = λ n o h. inl (no_more n o h)

pub leaves_same : (level : ℕ) (P : Option (List ℕ) → Option (List ℕ) → Type 0) (old new : State) → Unchanged old new → Leaves level P old new
leaves_same level P old new same = record {
  others = λ n _. same.stands n;
  crash = crash_none (old.stands level) level P old.may_leave new.may_leave same.crash;
  still = same.still;
  clear = λ h. inl (same.clear level h);
  others_clear = λ n _ h. same.clear n h;
}

crash_free : (stand : Option (Option (List ℕ))) (level : ℕ) (P : Option (List ℕ) → Type 0) (old mid new : ℕ → Option (List ℕ) → Type 0) → IfSome stand (λ name. name ≡ None)
    → ((n : ℕ) (o : Option (List ℕ)) → mid n o → old n o) → IfSome stand (λ _. LeavesToo level P mid new) → IfSome stand (λ name. LeavesToo level (λ left. (name ≡ None) × P left) old new)
crash_free None level P old mid new free no_more leaves = tt
crash_free (Some name) level P old mid new free no_more leaves = λ n o h. ⊎_elim (λ l. inl (no_more n o l)) (λ r. inr (r.0, (free, r.1))) (leaves n o h)

-- the same of a save in place of no file, once that was asked
pub leaves_if_free : (level : ℕ) (P : Option (List ℕ) → Type 0) (old mid new : State) → Unchanged old mid → IfSome (old.stands level) (λ name. name ≡ None) → Leaves level (λ _. P) mid new
    → Leaves level (λ name left. (name ≡ None) × P left) old new
leaves_if_free level P old mid new same free leaves = record {
  others = λ n other. leaves.others n other ∙ same.stands n;
  crash = crash_free (old.stands level) level P old.may_leave mid.may_leave new.may_leave free same.crash (subst (λ (s : Option (Option (List ℕ))). IfSome s (λ _. LeavesToo level P mid.may_leave new.may_leave)) (same.stands level) leaves.crash);
  still = λ n o h. leaves.still n o (same.still n o h);
  clear = λ h. subst (λ (k : ℕ). new.is_clear level ⊎ Grew k new.stuck) same.stuck (leaves.clear (same.clear level h));
  others_clear = λ n other h. leaves.others_clear n other (same.clear n h);
}
