-- Why nothing is told of a board, by right levels or by what files say.
use Rattle.std.proofs.Common.{◌≡◌, ◌<◌, ◌≤◌, ◌↔◌, ◌∙◌, ◌⊎◌, ℕ, Bool, true, false, List, arith, inl, inr, length, nat_lt, refl, subst, sum}
use Rattle.std.proofs.lemmas.Bool.Decides.{nat_tests}
use Rattle.awari_answers.specs.Asked.{IsAsked, IsUnasked}
use Rattle.awari_answers.specs.declared.asked.NoAnswer.{NoAnswer}
use Rattle.awari_answers.specs.declared.asked.NoAnswer.TheVariants.{Folder}
use Rattle.awari_folder.specs.Contents.{Same, Stands}
use Rattle.awari_folder.specs.declared.faults.FolderFault.{FolderFault}
use Rattle.awari_places.proofs.Reading.{still_says}
use Rattle.awari_places.specs.Faults.{IsPliesFault, IsRefusedAt}
use Rattle.awari_places.specs.Lasting.{judge_before, look_before}
use Rattle.awari_places.specs.declared.opening.Opened.{Opened}
use Rattle.awari_table.specs.declared.images.Image.{Image}
use Rattle.awari_boards.specs.Known.{IsOpened}
use Rattle.awari_boards.specs.Refused.{IsBeyond, IsNotThere, IsUnknown, IsUnopenedFor}

abbrev Dues : Type 1
Dues = ℕ → List ℕ → FolderFault → Type 0

-- each way that it comes about, of the text as it is lent
module _ (lacked : Type 0) (stands : Stands) (lent text : List ℕ) (Due : Dues) (same : lent ≡ text) where
  pub unknown_asked : (line unverified : Bool) (fault : NoAnswer) → unverified ≡ false → IsUnasked lacked stands lent fault → IsUnknown line unverified lacked stands text Due fault
  unknown_asked line true fault is why = absurd cc
  unknown_asked line false fault is why = inl (subst (λ (t : List ℕ). IsUnasked lacked stands t fault) same why)

  pub unknown_shelved : (line unverified : Bool) (images : List Image) (board : List ℕ) (fault : NoAnswer) → unverified ≡ false → IsAsked stands lent images board
      → IsBeyond line (length images) (sum board) fault → IsUnknown line unverified lacked stands text Due fault
  unknown_shelved line true images board fault is asked due = absurd cc
  unknown_shelved line false images board fault is asked due =
      inr (record { images = images; board = board; asked = subst (λ (t : List ℕ). IsAsked stands t images board) same asked; due = due })

  pub unknown_opened : (line unverified : Bool) (fault : NoAnswer) → unverified ≡ true → IsUnopenedFor stands lent fault ⊎ IsNotThere line stands lent fault
      → IsUnknown line unverified lacked stands text Due fault
  unknown_opened line true fault is (inl why) = inl (subst (λ (t : List ℕ). IsUnopenedFor stands t fault) same why)
  unknown_opened line true fault is (inr why) = inr (inl (subst (λ (t : List ℕ). IsNotThere line stands t fault) same why))
  unknown_opened line false fault is why = absurd cc

  pub unknown_read : (line unverified : Bool) (board : List ℕ) (opened : Opened) (fault : FolderFault) → unverified ≡ true → IsOpened stands lent board opened → sum board < opened.levels
      → Due opened.levels board fault → IsUnknown line unverified lacked stands text Due (Folder fault)
  unknown_read line true board opened fault is framed low due =
      inr (inr (record { board = board; levels = opened; opened = subst (λ (t : List ℕ). IsOpened stands t board opened) same framed; known = low; inner = fault; told = refl; due = due }))
  unknown_read line false board opened fault is framed low due = absurd cc

-- the refusal of a line is one by what had the names before
pub plies_before : (longest : Bool) (old new : Stands) (levels : ℕ) (fault : FolderFault) → Same old new → IsPliesFault longest levels new fault → IsPliesFault longest levels old fault
plies_before true old new levels fault same (inl is) = inl (judge_before old new levels fault same is)
plies_before true old new levels fault same (inr is) =
    inr (record { board = is.board; known = is.known; told = is.told; unsaid = λ images says. is.unsaid images (still_says old new levels images same says) })
plies_before false old new levels fault same (inl is) = inl (look_before old new levels fault same is)
plies_before false old new levels fault same (inr is) =
    inr (record { board = is.board; is_board = is.is_board; known = is.known; told = is.told; illegal = λ images says. is.illegal images (still_says old new levels images same says) })

-- so is that of the board that it begins at
pub plies_at : (longest : Bool) (old new : Stands) (levels : ℕ) (board : List ℕ) (fault : FolderFault) → Same old new → sum board < levels → IsRefusedAt new board fault → IsPliesFault longest levels old fault
plies_at true old new levels board fault same low is = inl (inl (look_before old new levels fault same (record { board = board; known = low; here = is })))
plies_at false old new levels board fault same low is = inl (look_before old new levels fault same (record { board = board; known = low; here = is }))

-- two names that have what a third one has
pub same_then : (first then last : Stands) → Same first then → Same then last → Same first last
same_then first then last one two n = two n ∙ one n

-- a level that is not below the levels
pub few_levels : (levels level : ℕ) → ((false ≡ true) ↔ (level < levels)) → levels ≤ level
few_levels levels level known = go (nat_lt level levels) refl
  where
    go : (b : Bool) → nat_lt level levels ≡ b → levels ≤ level
    go true e = let low : level < levels = grind (arith, nat_tests) in absurd (let no = known.1 low in cc)
    go false e = grind (arith, nat_tests)
