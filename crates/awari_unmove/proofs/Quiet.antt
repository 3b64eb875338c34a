-- A quiet move backward is a quiet move.
use Rattle.std.proofs.Common.{◌≡◌, ℕ, ◌<◌, List, ◌++◌, length, get_or, sum, take, drop, refl, sym, ap, ◌∙◌, subst, arith, length-drop}
use Rattle.std.proofs.Math.Seq.{drop-append_seam, take-append_seam}
use Rattle.std.proofs.lemmas.List.{take-append-drop}
use Rattle.awari_board.specs.Rules.{IsBoard, IsLegal, IsMove, turned, landing, sown, last_pit, captured_stones, captured_pits, emptied}
use Rattle.awari_board.proofs.Capturing.{emptied-none}
use Rattle.awari_board.proofs.Moving.{IsMove-from_steps}
use Rattle.awari_board.proofs.Keeping.{sum-sown, sum-turned}
use Rattle.awari_unmove.specs.Predecessors.{IsQuiet}
use Rattle.awari_board.proofs.Capturing.{captured_pits-kept}
use Rattle.awari_unmove.proofs.Unmoving.{IsUnmove}

pub turned-turned : (q : List ℕ) → length q ≡ 12 → turned (turned q) ≡ q
turned-turned q size =
    let six : length (drop 6 q) ≡ 6 = omega (arith, length-drop 6 q) in
    let a : drop 6 (turned q) ≡ take 6 q = ap (λ n. drop n (turned q)) (sym six) ∙ drop-append_seam (drop 6 q) (take 6 q) in
    let b : take 6 (turned q) ≡ drop 6 q = ap (λ n. take n (turned q)) (sym six) ∙ take-append_seam (drop 6 q) (take 6 q) in
    ap (λ xs. xs ++ take 6 (turned q)) a ∙ ap (λ xs. take 6 q ++ xs) b ∙ take-append-drop 6 q

-- a sowing that captures nothing is a quiet move
IsMove-kept : (p : List ℕ) (x : ℕ) (strewn : List ℕ) (last : ℕ) → IsLegal p x → strewn ≡ sown p x → last ≡ last_pit p x → captured_stones strewn last ≡ 0 → IsMove p x 0 (turned strewn)
IsMove-kept p x strewn last legal sowed landed kept =
    IsMove-from_steps p x strewn last 0 strewn (turned strewn) legal sowed landed (sym kept) (emptied-none strewn last (ap length sowed) ∙ ap (emptied strewn last) (sym (captured_pits-kept strewn last kept))) refl

pub IsQuiet-from_IsUnmove : (q : List ℕ) (x k : ℕ) (p : List ℕ) → IsBoard q → IsUnmove (turned q) x k p → IsQuiet p x q
IsQuiet-from_IsUnmove q x k p whole goes =
    let own : x < 12 = omega (arith, goes.legal.own) in
    let total : sum p ≡ sum q = sym (sum-sown p x goes.size own) ∙ ap sum goes.sows ∙ sum-turned q in
    let move : IsMove p x 0 (turned (turned q)) = IsMove-kept p x (turned q) (landing x k) goes.legal (sym goes.sows) (ap (landing x) (sym goes.held)) goes.kept in
    record {
      board = record { pits = goes.size; stones = omega (arith, whole.stones) };
      move = subst (IsMove p x 0) (turned-turned q whole.pits) move;
    }

pub IsUnmove-from_IsQuiet : (q : List ℕ) (x : ℕ) (p : List ℕ) → IsQuiet p x q → IsUnmove (turned q) x (get_or p x 0) p
IsUnmove-from_IsQuiet q x p quiet =
    let strewn = sown p x in
    let last = last_pit p x in
    let kept : captured_stones strewn last ≡ 0 = sym quiet.move.captures in
    let left : emptied strewn last (captured_pits strewn last) ≡ strewn = ap (emptied strewn last) (captured_pits-kept strewn last kept) ∙ sym (emptied-none strewn last refl) in
    let back : turned q ≡ strewn = ap turned quiet.move.leaves ∙ ap (λ b. turned (turned b)) left ∙ turned-turned strewn refl in
    record {
      size = quiet.board.pits;
      held = refl;
      legal = quiet.move.legal;
      sows = sym back;
      kept = ap (λ b. captured_stones b last) back ∙ kept;
    }
