-- Boards counted one by one.
use mir.Val.{bool_byte}
use Rattle.std.proofs.Common.{◌≡◌, ℕ, ◌+◌, ◌≤◌, List, length, take, Bool, true, false, count_by, zero, suc, Some, slice_get, ℤ, pos, negsuc, int_lt, refl, ap, sym, subst, ◌∙◌, arith}
use Rattle.std.specs.Ordering.{int_eq}
use Rattle.std.proofs.lemmas.Int.{ints}
use Rattle.std.proofs.lemmas.List.{take_all}
use Rattle.std.proofs.lemmas.List.Sums.{count_by_more_yes, count_by_more_no}
use Rattle.std.proofs.lemmas.Option.{get_or_from_slice_get, slice_get_within}
use Rattle.awari_table.specs.declared.images.Entry.{Entry}
use Rattle.awari_table.specs.Images.{won_boards, even_boards, lost_boards}

-- the first i entries are counted
pub record IsCounted (entries : List Entry) (i won lost : ℕ) : Type 0 where
  pub won_so_far : won ≡ won_boards (take i entries)
  pub lost_so_far : lost ≡ lost_boards (take i entries)
  pub each_once : won + even_boards (take i entries) + lost ≡ i

count_more : (test : Entry → Bool) (entries : List Entry) (i : ℕ) (e : Entry) (passes : Bool) → slice_get entries i ≡ Some e → test e ≡ passes
    → count_by test (take (i + 1) entries) ≡ count_by test (take i entries) + bool_byte passes
count_more test entries i e true found is =
    count_by_more_yes test entries i e (slice_get_within entries i e found) (rw (get_or_from_slice_get entries i e e found) is)
count_more test entries i e false found is =
    count_by_more_no test entries i e (slice_get_within entries i e found) (rw (get_or_from_slice_get entries i e e found) is) ∙ omega arith

-- a value has one of the three signs
one_sign : (v : ℤ) → bool_byte (int_lt (pos 0) v) + bool_byte (int_eq v (pos 0)) + bool_byte (int_lt v (pos 0)) ≡ 1
one_sign (pos zero) = refl
one_sign (pos (suc n)) =
    let less : int_lt (pos 0) (pos (suc n)) ≡ true = grind (arith, ints) in
    let more : int_lt (pos (suc n)) (pos 0) ≡ false = grind (arith, ints) in
    rw (less, more) refl
one_sign (negsuc n) = refl

-- a board more, by the sign of its value
pub counted : (entries : List Entry) (i won lost : ℕ) (e : Entry) → slice_get entries i ≡ Some e → IsCounted entries i won lost
    → IsCounted entries (i + 1) (won + bool_byte (int_lt (pos 0) e.value)) (lost + bool_byte (int_lt e.value (pos 0)))
counted entries i won lost e found before = record {
  won_so_far = ap (λ n. n + bool_byte (int_lt (pos 0) e.value)) before.won_so_far ∙ sym (count_more (λ f. int_lt (pos 0) f.value) entries i e _ found refl);
  lost_so_far = ap (λ n. n + bool_byte (int_lt e.value (pos 0))) before.lost_so_far ∙ sym (count_more (λ f. int_lt f.value (pos 0)) entries i e _ found refl);
  each_once =
      let even : even_boards (take (i + 1) entries) ≡ even_boards (take i entries) + bool_byte (int_eq e.value (pos 0)) = count_more (λ f. int_eq f.value (pos 0)) entries i e _ found refl in
      let once = one_sign e.value in
      let all = before.each_once in
      omega (arith, even, once, all);
}

-- all are counted
pub counted_all : (entries : List Entry) (i won lost : ℕ) → length entries ≤ i → IsCounted entries i won lost → (won ≡ won_boards entries) × (lost ≡ lost_boards entries) × (won + even_boards entries + lost ≡ i)
counted_all entries i won lost past counted =
    subst (λ (es : List Entry). (won ≡ won_boards es) × (lost ≡ lost_boards es) × (won + even_boards es + lost ≡ i)) (take_all i entries past) (counted.won_so_far, counted.lost_so_far, counted.each_once)
