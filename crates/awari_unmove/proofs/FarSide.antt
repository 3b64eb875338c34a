-- Quiet moves backward that go on to the other side, from the last empty pit of the own.
use Rattle.std.proofs.Common.{◌≡◌, ℕ, ◌+◌, ◌-◌, ◌<◌, ◌≤◌, nat_lt, List, length, get_or, sum, take, drop, sym, ap, ◌∙◌, subst, arith, length-append, length-drop}
use Rattle.std.proofs.lemmas.List.{length-take-le, get_or_append_left, get_or-drop}
use Rattle.awari_board.specs.Rules.{IsBoard, turned}
use Rattle.awari_board.proofs.Keeping.{sum-turned}
use Rattle.awari_packed.specs.TakenBack.{taken_back}
use Rattle.awari_unmove.specs.Steps.{has_bit, holds, origin_of}
use Rattle.awari_unmove.specs.Undoing.{IsUnsowing, IsUndoingFrom}
use Rattle.awari_unmove.proofs.Ends.{origin_of-before, origin_of-between, origin_of-same}
use Rattle.awari_unmove.proofs.Sown.{IsUnsowing-taken, holds-true}

-- a board turned
pub length-turned : (q back : List ℕ) → IsBoard q → back ≡ turned q → length back ≡ 12
length-turned q back whole is =
    let high : length (drop 6 q) ≡ 6 = omega (arith, length-drop 6 q, whole.pits) in
    let low : length (take 6 q) ≡ 6 = length-take-le 6 q (omega (arith, whole.pits)) in
    ap length is ∙ omega (arith, length-append (drop 6 q) (take 6 q), high, low)

pub few-turned : (q back : List ℕ) → IsBoard q → back ≡ turned q → sum back ≤ 48
few-turned q back whole is = omega (arith, ap sum is, sum-turned q, whole.stones)

pub holds-turned : (q back : List ℕ) → IsBoard q → back ≡ turned q → (i : ℕ) → i < 6 → holds back i ≡ holds q (6 + i)
holds-turned q back whole is i own =
    let high : length (drop 6 q) ≡ 6 = omega (arith, length-drop 6 q, whole.pits) in
    let at : get_or back i 0 ≡ get_or q (6 + i) 0 = ap (λ b. get_or b i 0) is ∙ get_or_append_left (drop 6 q) (take 6 q) 0 i (omega (arith, high, own)) ∙ get_or-drop 6 q i 0 in
    ap (λ s. nat_lt 0 s) at

-- the bits of the pits
pub bits-turned : (q back : List ℕ) (held : ℕ) → IsBoard q → back ≡ turned q → ((i : ℕ) → i < 6 → has_bit held i ≡ holds q (6 + i)) → (i : ℕ) → i < 6 → has_bit held i ≡ holds back i
bits-turned q back held whole is bits i own = bits i own ∙ sym (holds-turned q back whole is i own)

-- the origin that the table has
pub last_origin : (back : List ℕ) (held x : ℕ) → ((i : ℕ) → i < 6 → has_bit held i ≡ holds back i) → x ≡ origin_of (has_bit held) 6 → x ≡ origin_of (holds back) 6
last_origin back held x bits is = is ∙ origin_of-same (has_bit held) (holds back) 6 6 bits (omega arith)

pub last_origin-own : (back : List ℕ) (h : ℕ) → h ≡ origin_of (holds back) 6 → h ≤ 5
last_origin-own back h is = omega (arith, is, origin_of-before (holds back) 6)

pub last_origin-held : (back : List ℕ) (h : ℕ) → h ≡ origin_of (holds back) 6 → (i : ℕ) → h < i → i ≤ 5 → 0 < get_or back i 0
last_origin-held back h is i past own = holds-true back i (origin_of-between (holds back) 6 i (omega (arith, is, past)) (omega (arith, own)))

-- all stones that had fallen on the own side are taken back
pub IsUndoingFrom-start : (back : List ℕ) (h : ℕ) (left : List ℕ) → length back ≡ 12 → sum back ≤ 48 → h ≡ origin_of (holds back) 6 → left ≡ taken_back back h (5 - h) → IsUndoingFrom back h (5 - h) 6 left
IsUndoingFrom-start back h left size few is taken =
    let own = last_origin-own back h is in
    record {
      size = size;
      few = few;
      own = omega (arith, own);
      far = omega (arith, own);
      unsowing = subst (IsUnsowing back h (5 - h)) (sym taken) (IsUnsowing-taken back h (5 - h) size (omega (arith, own)) (λ i past high. last_origin-held back h is i past (omega (arith, own, high))));
      next = omega (arith, own);
    }
