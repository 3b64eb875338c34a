-- Worths that go with a list of pits, one with each.
use Rattle.std.proofs.Common.{◌≡◌, ℕ, ◌+◌, ◌<◌, [], ◌∷◌, ◌++◌, Bool, true, false, Some, List, All, ◌∙◌, ap, arith, get_or, length, map, refl, subst, suc, sym, take, zero}
use Rattle.std.proofs.lemmas.List.{map_push, take_more}
use Rattle.std.proofs.lemmas.Slice.Zip.{all_zipped_more}
use Rattle.std.specs.List.{AllZip}
use Rattle.awari_table.specs.Certificate.{Table}
use Rattle.awari_play.specs.MoveWorth.{IsMoveWorth, IsWorthOf, pit_of}
use Rattle.awari_play.specs.Worths.{AreReplies, IsReplied, worth_in}
use Rattle.awari_play.specs.declared.replies.Replies.{Replies}
use Rattle.awari_table.specs.declared.images.Image.{Image}
use Rattle.awari_play.specs.declared.weighing.WeighedMove.{WeighedMove}
use Rattle.awari_play.specs.declared.worths.MoveWorth.{MoveWorth}

pub pits-of : (t : Table) (p pits : List ℕ) (ws : List MoveWorth) → AllZip (IsWorthOf t p) pits ws → map pit_of ws ≡ pits
pits-of t p [] [] _ = refl
pits-of t p (x ∷ pits) (w ∷ ws) h = ap (λ y. y ∷ map pit_of ws) h.0.pit ∙ ap (λ l. x ∷ l) (pits-of t p pits ws h.1)
pits-of t p [] (w ∷ ws) h = absurd h
pits-of t p (x ∷ pits) [] h = absurd h

pub worths-of : (t : Table) (p pits : List ℕ) (ws : List MoveWorth) → AllZip (IsWorthOf t p) pits ws → All (IsMoveWorth t p) ws
worths-of t p [] [] _ k d lt = absurd (omega arith)
worths-of t p (x ∷ pits) (w ∷ ws) h zero d lt = h.0.worth
worths-of t p (x ∷ pits) (w ∷ ws) h (suc k) d lt = worths-of t p pits ws h.1 k d (omega arith)
worths-of t p [] (w ∷ ws) h k d lt = absurd h
worths-of t p (x ∷ pits) [] h k d lt = absurd h

pub worths-more : (t : Table) (p pits : List ℕ) (ws : List MoveWorth) (i x : ℕ) (w : MoveWorth)
    → i < length pits → x ≡ get_or pits i x → AllZip (IsWorthOf t p) (take i pits) ws → IsWorthOf t p x w
    → AllZip (IsWorthOf t p) (take (i + 1) pits) (ws ++ w ∷ [])
worths-more t p pits ws i x w lt is before now =
    subst (λ l. AllZip (IsWorthOf t p) l (ws ++ w ∷ [])) (ap (λ z. take i pits ++ z ∷ []) is ∙ sym (take_more pits i x lt))
    (all_zipped_more (IsWorthOf t p) (take i pits) ws x w before now)

-- one more move with its worth
pub weighed-more : (moves : List WeighedMove) (m : WeighedMove) (ws : List MoveWorth) (i : ℕ) (w : MoveWorth) (after : List WeighedMove)
    → i < length ws → get_or ws i w ≡ w → m.worth ≡ w → map worth_in moves ≡ take i ws → after ≡ moves ++ m ∷ [] → map worth_in after ≡ take (i + 1) ws
weighed-more moves m ws i w after inside own is before more =
    ap (map worth_in) more ∙ map_push worth_in moves m ∙ ap (λ l. l ++ m.worth ∷ []) before ∙ ap (λ x. take i ws ++ x ∷ []) (is ∙ sym own) ∙ sym (take_more ws i w inside)

-- replies that were asked for
pub replied : (asked : Bool) (images : List Image) (board : List ℕ) (m : WeighedMove) (replies : Replies) → asked ≡ true → m.replies ≡ Some replies → AreReplies images board m.worth.pit replies → IsReplied asked images board m
replied true images board m replies asks some are = (replies, some, are)
replied false images board m replies asks some are = absurd cc
