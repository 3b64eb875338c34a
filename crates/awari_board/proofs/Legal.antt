-- When a move is legal, and when none is.
use Rattle.std.proofs.Common.{◌≡◌, ℕ, zero, suc, ◌+◌, ◌<◌, ◌≤◌, ◌↔◌, Bool, true, false, not, ◌&&◌, ◌||◌, nat_lt, List, slice_index, refl, sym, ◌∙◌, arith}
use Rattle.std.proofs.lemmas.Bool.{false≢true}
use Rattle.std.proofs.lemmas.Bool.Decides.{nat_tests}
use Rattle.awari_board.specs.Rules.{IsEnded, IsLegal, other_stones}
use Rattle.awari_board.specs.Tests.{is_legal, is_ended}
use Rattle.awari_board.proofs.Landing.{feeds_far, far_from_feeds}

-- a pit that sows past pit 5 is legal, whatever the opponent has
pub IsLegal-far : (board : List ℕ) (x : ℕ) → x < 6 → 0 < slice_index board x → 6 ≤ x + slice_index board x → IsLegal board x
IsLegal-far board x own held far = record { own = own; held = held; feeds = λ _. feeds_far x _ own far }

-- ---- the tests decide

legal_parts : (other held x : ℕ) → (nat_lt x 6 && (nat_lt 0 held && (nat_lt 0 other || nat_lt 5 (x + held)))) ≡ true → (x < 6) × (0 < held) × (other ≡ 0 → 6 ≤ x + held)
legal_parts other held x passed = grind (arith, nat_tests)

parts_legal : (other held x : ℕ) → x < 6 → 0 < held → (other ≡ 0 → 6 ≤ x + held) → (nat_lt x 6 && (nat_lt 0 held && (nat_lt 0 other || nat_lt 5 (x + held)))) ≡ true
parts_legal other held x own some far = grind (arith, nat_tests)

pub legal_is : (board : List ℕ) (x : ℕ) → (is_legal board x ≡ true) ↔ IsLegal board x
legal_is board x = (
  λ passed.
      let parts = legal_parts (other_stones board) (slice_index board x) x passed in
      record { own = parts.0; held = parts.1; feeds = λ bare. feeds_far x (slice_index board x) parts.0 (parts.2 bare) },
  λ legal.
      parts_legal (other_stones board) (slice_index board x) x legal.own legal.held
      (λ bare. let fed = legal.feeds bare in far_from_feeds x (slice_index board x) fed.0 fed.1 fed.2 fed.3),
)

none_of : (a b c d e f : Bool) → not (a || (b || (c || (d || (e || f))))) ≡ true → (a ≡ false) × (b ≡ false) × (c ≡ false) × (d ≡ false) × (e ≡ false) × (f ≡ false)
none_of a b c d e f none = grind arith

all_none : (a b c d e f : Bool) → a ≡ false → b ≡ false → c ≡ false → d ≡ false → e ≡ false → f ≡ false → not (a || (b || (c || (d || (e || f))))) ≡ true
all_none a b c d e f none_a none_b none_c none_d none_e none_f = grind arith

pub below_six : (P : ℕ → Type 0) → P 0 → P 1 → P 2 → P 3 → P 4 → P 5 → (x : ℕ) → x < 6 → P x
below_six P a b c d e f zero own = a
below_six P a b c d e f (suc zero) own = b
below_six P a b c d e f (suc (suc zero)) own = c
below_six P a b c d e f (suc (suc (suc zero))) own = d
below_six P a b c d e f (suc (suc (suc (suc zero)))) own = e
below_six P a b c d e f (suc (suc (suc (suc (suc zero))))) own = f
below_six P a b c d e f (suc (suc (suc (suc (suc (suc x)))))) own = absurd (omega arith)

pub not_legal : (board : List ℕ) (x : ℕ) → (IsLegal board x → ⊥) → is_legal board x ≡ false
not_legal board x none = go (is_legal board x) refl
  where
    go : (b : Bool) → is_legal board x ≡ b → b ≡ false
    go true e = absurd (none ((legal_is board x).0 e))
    go false e = refl

pub ended_is : (board : List ℕ) → (is_ended board ≡ true) ↔ IsEnded board
ended_is board = (
  λ passed x legal.
      let each = none_of _ _ _ _ _ _ passed in
      let at : is_legal board x ≡ false = below_six (λ x. is_legal board x ≡ false) each.0 each.1 each.2 each.3 each.4 each.5 x legal.own in
      false≢true (sym at ∙ (legal_is board x).1 legal),
  λ ended.
      all_none _ _ _ _ _ _ (not_legal board 0 (ended 0)) (not_legal board 1 (ended 1)) (not_legal board 2 (ended 2))
      (not_legal board 3 (ended 3)) (not_legal board 4 (ended 4)) (not_legal board 5 (ended 5)),
)
