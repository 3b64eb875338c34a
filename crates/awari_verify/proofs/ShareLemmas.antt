-- What several threads have looked at, put together.
use Rattle.std.proofs.Common.{rules, ◌≡◌, ◌⊎◌, ℕ, ◌+◌, ◌<◌, Bool, true, false, List, replicate, set, get_or, inl, inr, ap, sym, ◌∙◌, arith}
use Rattle.std.proofs.lemmas.Bool.{cases_lt, cases_eq}
use Rattle.std.proofs.lemmas.List.{get_or-replicate, get_or-set_other, get_or_past, length-replicate}

-- at first no piece is seen
pub none_seen : (n i : ℕ) → get_or (replicate n false) i false ≡ true → ⊥
none_seen n i seen =
    elim (cases_lt i n) [
      | inl less ↦ let never : false ≡ true = sym (get_or-replicate n i false false less) ∙ seen in search rules
      | inr past ↦ let never : false ≡ true = sym (get_or_past (replicate n false) i false (omega (arith, past, length-replicate n false))) ∙ seen in search rules
    ]

-- one piece more
pub one_seen : (xs : List Bool) (i j : ℕ) → get_or (set xs i true) j false ≡ true → (get_or xs j false ≡ true) ⊎ (j ≡ i)
one_seen xs i j seen = elim (cases_eq j i) [ inl same ↦ inr same | inr other ↦ inl (sym (get_or-set_other xs i j true false other) ∙ seen) ]

-- what was looked at, and the pieces before this one: none at first
pub unseen_first : (xs : List Bool) (i : ℕ) → (get_or xs i false ≡ true) ⊎ (i < 0) → get_or xs i false ≡ true
unseen_first xs i here = elim here [ inl seen ↦ seen | inr before ↦ absurd (omega (arith, before)) ]

-- one that was not looked at is
pub unseen_next : (xs : List Bool) (i piece : ℕ) → (get_or xs i false ≡ true) ⊎ (i < piece + 1) → ((get_or xs i false ≡ true) ⊎ (i < piece)) ⊎ (i ≡ piece)
unseen_next xs i piece here =
    elim here [
      | inl seen ↦ inl (inl seen)
      | inr before ↦ elim (cases_lt i piece) [ inl less ↦ inl (inr less) | inr last ↦ inr (omega (arith, before, last)) ]
    ]

-- one that was looked at needs no other look
pub seen_next : (xs : List Bool) (i piece : ℕ) → get_or xs piece false ≡ true → (get_or xs i false ≡ true) ⊎ (i < piece + 1) → (get_or xs i false ≡ true) ⊎ (i < piece)
seen_next xs i piece is here =
    elim here [
      | inl seen ↦ inl seen
      | inr before ↦ elim (cases_lt i piece) [ inl less ↦ inr less | inr last ↦ let same : i ≡ piece = omega (arith, before, last) in inl (ap (λ k. get_or xs k false) same ∙ is) ]
    ]
