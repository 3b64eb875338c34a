-- What is known of a host's folders once one of them was opened and closed.
use Rattle.std.proofs.Common.{◌≡◌, ◌≢◌, ◌⊎◌, ◌∙◌, ℕ, List, Option, Bool, true, false, refl, sym, subst, inl, inr}
use Rattle.std.specs.Prelude.{bytes_eq}
use Rattle.std.proofs.lemmas.Slice.Eq.{bytes_eq-Decides}
use Rattle.awari_builds.specs.Building.{PrintsLevels}
use Rattle.awari_cli.specs.Done.{LeavesFolders, PrintsBrought, PrintsBuilt}
use Rattle.awari_host.specs.Hosts.{AllStay, OthersStay}
use Rattle.awari_builds.specs.Migrating.{PrintsMigrated}
use Rattle.awari_folder.specs.Contents.{Same, KeepsFiles, Stands}

-- two names are one, or they are not
pub same_name : (a b : List ℕ) → (a ≡ b) ⊎ (a ≢ b)
same_name a b = go (bytes_eq a b) refl
  where
    go : (r : Bool) → bytes_eq a b ≡ r → (a ≡ b) ⊎ (a ≢ b)
    go true e = inl ((bytes_eq-Decides a b).0 e)
    go false e = inr (λ (q : a ≡ b). let passes : bytes_eq a b ≡ true = (bytes_eq-Decides a b).1 q in cc)

-- what is known of equal folders at one level
pub at_level : (a b : Stands) → a ≡ b → Same b a
at_level a b e n = subst (λ (f : Stands). f n ≡ b n) (sym e) refl

-- a folder that stays keeps its files
pub same_keeps : (a b : Stands) → Same a b → KeepsFiles a b
same_keeps a b same n bytes have = same n ∙ have

-- One folder was opened, and closed with what it had. All have what they had.
pub all_stay : (keeps : List ℕ → Type 0) (name : List ℕ) (old mid new : List ℕ → Stands) (before after : Stands)
    → before ≡ old name → OthersStay name old mid → Same before after → (keeps name → new name ≡ after) → OthersStay name mid new
    → AllStay keeps old new
all_stay keeps name old mid new before after opened others same closed others_closed other kept n =
    elim (same_name other name) [
      | inl q ↦
          let here : keeps name = subst keeps q kept in
          let P : List ℕ → Type 0 = λ m. new m n ≡ old m n in
          subst P (sym q) (at_level (new name) after (closed here) n ∙ same n ∙ at_level before (old name) opened n)
      | inr away ↦ at_level (new other) (mid other) (others_closed other away) n ∙ at_level (mid other) (old other) (others other away) n
    ]

-- each other folder has what it had, and the one of this name keeps its files
pub written_leaves : (keeps names : List ℕ → Type 0) (name : List ℕ) (old new : List ℕ → Stands)
    → ((other : List ℕ) → other ≡ name → names other)
    → ((other : List ℕ) → keeps other → other ≢ name → Same (old other) (new other))
    → (keeps name → KeepsFiles (old name) (new name)) → LeavesFolders keeps names old new
written_leaves keeps names name old new written others files = record {
  files = λ other kept. elim (same_name other name) [
    | inl q ↦ let P : List ℕ → Type 0 = λ m. KeepsFiles (old m) (new m) in subst P (sym q) (files (subst keeps q kept))
    | inr away ↦ same_keeps (old other) (new other) (others other kept away)
  ];
  others = λ other kept apart. others other kept (λ q. apart (written other q));
}

-- A folder was opened, locked and written into, and closed with what it has then: its files are kept, if that was so while it was
-- open.
pub built_keeps : (old opened locked built new : Stands) → opened ≡ old → locked ≡ opened → KeepsFiles locked built → new ≡ built → KeepsFiles old new
built_keeps old opened locked built new opens locks kept closes n bytes have =
    at_level new built closes n ∙ kept n bytes (at_level locked opened locks n ∙ (at_level opened old opens n ∙ have))

-- The lines of a build are those of the folder that was opened.
pub built_lines : (keeps : List ℕ → Type 0) (top : ℕ) (name : List ℕ) (old new : List ℕ → Stands) (opened locked built : Stands) (before after : Option (List ℕ))
    → opened ≡ old name → locked ≡ opened → (keeps name → new name ≡ built) → PrintsLevels top locked built before after → PrintsBuilt keeps top name old new before after
built_lines keeps top name old new opened locked built before after opens locks closes prints =
    (built, closes, subst (λ (f : Stands). PrintsLevels top f built before after) (locks ∙ opens) prints)

-- One folder was opened and then another, and they were closed in the other order, with what they had then.
pub record ClosesBoth (keeps : List ℕ → Type 0) (from to : List ℕ) (old new : List ℕ → Stands) (source read target written : Stands) : Type 0 where
  pub first : List ℕ → Stands
  pub second : List ℕ → Stands
  pub third : List ℕ → Stands
  pub opened_from : source ≡ old from
  pub others_from : OthersStay from old first
  pub opened_to : target ≡ first to
  pub others_to : OthersStay to first second
  pub closed_to : keeps to → third to ≡ written
  pub rest_to : OthersStay to second third
  pub closed_from : keeps from → new from ≡ read
  pub rest_from : OthersStay from third new

-- The first folder stays, if it had what it had when it was opened, and so does each that is neither.
pub others_stay : (keeps : List ℕ → Type 0) (from to : List ℕ) (old new : List ℕ → Stands) (source read target written : Stands)
    → ClosesBoth keeps from to old new source read target written → Same source read
    → (name : List ℕ) → keeps name → name ≢ to → Same (old name) (new name)
others_stay keeps from to old new source read target written both same name kept apart n =
    elim (same_name name from) [
      | inl q ↦
          let here : keeps from = subst keeps q kept in
          let P : List ℕ → Type 0 = λ m. new m n ≡ old m n in
          subst P (sym q) (at_level (new from) read (both.closed_from here) n ∙ (same n ∙ at_level source (old from) both.opened_from n))
      | inr away ↦
          at_level (new name) (both.third name) (both.rest_from name away) n
          ∙ (at_level (both.third name) (both.second name) (both.rest_to name apart) n
          ∙ (at_level (both.second name) (both.first name) (both.others_to name apart) n
          ∙ at_level (both.first name) (old name) (both.others_from name away) n))
    ]

-- The second folder keeps its files, if that was so while it was open.
pub second_keeps : (keeps : List ℕ → Type 0) (from to : List ℕ) (old new : List ℕ → Stands) (source read target written : Stands)
    → ClosesBoth keeps from to old new source read target written → Same source read → KeepsFiles target written
    → keeps to → KeepsFiles (old to) (new to)
second_keeps keeps from to old new source read target written both same files kept =
    elim (same_name to from) [
      | inl q ↦
          let here : keeps from = subst keeps q kept in
          let stays : Same (old from) (new from) = λ n. at_level (new from) read (both.closed_from here) n ∙ (same n ∙ at_level source (old from) both.opened_from n) in
          let P : List ℕ → Type 0 = λ m. KeepsFiles (old m) (new m) in
          subst P (sym q) (same_keeps (old from) (new from) stays)
      | inr away ↦ built_keeps (old to) (both.first to) target written (new to) (both.others_from to away) both.opened_to files (both.rest_from to away ∙ both.closed_to kept)
    ]

-- The lines of a migration are those of the folders that were opened.
pub brought_lines : (keeps : List ℕ → Type 0) (from to : List ℕ) (old new : List ℕ → Stands) (source read target written : Stands) (before after : Option (List ℕ))
    → ClosesBoth keeps from to old new source read target written → PrintsMigrated source target written before after
    → PrintsBrought keeps from to old new before after
brought_lines keeps from to old new source read target written before after both prints = (
  target,
  written,
  λ apart. sym (both.opened_to ∙ both.others_from to (λ q. apart (sym q))),
  λ apart kept. both.rest_from to (λ q. apart (sym q)) ∙ both.closed_to kept,
  subst (λ (f : Stands). PrintsMigrated f target written before after) both.opened_from prints,
)
