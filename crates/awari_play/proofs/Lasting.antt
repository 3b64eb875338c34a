-- What stays of a table while it is asked, and which of its refusals are due.
use Rattle.std.proofs.Common.{◌≡◌, ◌<◌, ℕ, Bool, true, false, List, inl, inr, refl, subst, sum, sym, Option, Some, None, Result, Ok, Err}
use Rattle.std.specs.Prelude.{IfErr, IfOk, IsErrAnd}
use Rattle.std.specs.Borrow.{Bor}
use Rattle.awari_table.specs.Shelves.{IsShelf}
use Rattle.awari_table.specs.declared.images.Image.{Image}
use Rattle.awari_play.proofs.Following.{planned}
use Rattle.awari_play.specs.Saying.{IsLasting, IsRefusedIn, Saying}
use Rattle.awari_play.specs.OnShelf.{on_shelf}
use Rattle.awari_play.specs.Unplayed.{IsIllegal, IsNotLegal, IsUnheld, IsUnlined, IsUnplayed}
use Rattle.awari_play.specs.declared.lookups.Unplayed.{Unplayed}
use Rattle.awari_play.specs.declared.lookups.Unplayed.TheVariants.{Memory, Refused, Illegal}

pub refused_at : {S F : Type 0} (saying : Saying S F) (s : S) (board : List ℕ) (fault : F) → sum board < saying.levels s → saying.refuses s board fault → IsRefusedIn saying s fault
refused_at saying s board fault low is = record { board = board; known = low; here = is }

pub refused_before : {S F : Type 0} (saying : Saying S F) → IsLasting saying → (old new : S) (fault : F) → saying.keeps old new → IsRefusedIn saying new fault → IsRefusedIn saying old fault
refused_before saying laws old new fault kept is =
    record { board = is.board; known = subst (λ n. sum is.board < n) (laws.levels old new kept) is.known; here = laws.refuses old new is.board fault kept is.here }

-- a level that is there stays there
pub still_known : {S F : Type 0} (saying : Saying S F) → IsLasting saying → (old new : S) (board : List ℕ) → saying.keeps old new → sum board < saying.levels old → sum board < saying.levels new
still_known saying laws old new board kept low = subst (λ n. sum board < n) (sym (laws.levels old new kept)) low

-- what holds anyway holds of an answer
pub ok_all : {T F : Type 0} (r : Result T F) (P : Type 0) → P → IfOk r (λ x. P)
ok_all (Ok x) P is = is
ok_all (Err f) P is = tt

-- a refusal that is handed on as it is
pub err_same : {T F : Type 0} (r : Result T F) (P : F → Type 0) (f : F) → IsErrAnd r (λ g. g ≡ f) → P f → IfErr r P
err_same (Ok x) P f same h = tt
err_same (Err g) P f same h = subst P (sym same) h

-- why a play is not told, by a table that was kept
pub unplayed_before : {S F : Type 0} (saying : Saying S F) → IsLasting saying → (old new : S) (fault : Unplayed F) → saying.keeps old new → IsUnplayed saying new fault → IsUnplayed saying old fault
unplayed_before saying laws old new Memory kept is = tt
unplayed_before saying laws old new (Refused fault) kept is = refused_before saying laws old new fault kept is
unplayed_before saying laws old new (Illegal board) kept is = record {
  is_board = is.is_board;
  known = subst (λ n. sum board < n) (laws.levels old new kept) is.known;
  some = is.some;
  illegal = λ images says. is.illegal images (laws.says old new images kept says);
}

-- and why a play in which one side holds out is not
pub unheld_before : {S F : Type 0} (saying : Saying S F) (misjudges : S → F → Type 0) → IsLasting saying
    → ((old new : S) (fault : F) → saying.keeps old new → misjudges new fault → misjudges old fault)
    → (old new : S) (fault : Unplayed F) → saying.keeps old new → IsUnheld saying misjudges new fault → IsUnheld saying misjudges old fault
unheld_before saying misjudges laws same old new Memory kept is = tt
unheld_before saying misjudges laws same old new (Refused fault) kept (inl is) = inl (refused_before saying laws old new fault kept is)
unheld_before saying misjudges laws same old new (Refused fault) kept (inr is) = inr (same old new fault kept is)
unheld_before saying misjudges laws same old new (Illegal board) kept is = record {
  is_board = is.is_board;
  known = subst (λ n. sum board < n) (laws.levels old new kept) is.known;
  unsaid = λ images says. is.unsaid images (laws.says old new images kept says);
}

-- the plan of a board on which some pit is legal is legal by right levels
pub shelf_plans : (shelf : Bor (List Image)) (board : List ℕ) → IsShelf shelf.now → IsIllegal on_shelf shelf board → ⊥
shelf_plans shelf board right is =
    let (x, plan, legal) = planned shelf.now board right is.is_board is.known is.some in
    subst (IsNotLegal board) plan (is.illegal shelf.now refl) legal

-- so neither line comes to a board where no legal pit is due
pub shelf_lines : (longest : Bool) (shelf : Bor (List Image)) (board : List ℕ) → IsShelf shelf.now → IsUnlined longest on_shelf (λ s fault. ⊥) shelf (Illegal board) → ⊥
shelf_lines true shelf board right is = is.unsaid shelf.now refl
shelf_lines false shelf board right is = shelf_plans shelf board right is

pub none_legal : (p : List ℕ) (o : Option ℕ) → ((x : ℕ) → o ≡ Some x → ⊥) → IsNotLegal p o
none_legal p None none = tt
none_legal p (Some x) none = λ legal. none x refl
