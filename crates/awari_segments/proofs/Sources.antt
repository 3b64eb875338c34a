-- The sources of a chunk: quiet moves to its boards, all of them, each once.
use Rattle.std.proofs.Common.{◌≡◌, ◌≢◌, ℕ, zero, suc, ◌+◌, ◌/◌, ◌==◌, ◌⊎◌, inl, inr, Bool, true, false, cond, List, [], ◌∷◌, map, filter, sum, Contains, refl, sym, ap, subst, ◌∙◌, arith, eqb-true}
use Rattle.std.proofs.lemmas.Bool.{false≢true}
use Rattle.std.proofs.lemmas.Bool.Decides.{nat_tests}
use Rattle.awari_board.specs.Rules.{IsBoard}
use Rattle.awari_rank.specs.Rank.{rank_of}
use Rattle.awari_block.specs.Notes.{IsQuietMove, Has}
use Rattle.awari_scan.specs.Found.{Source, code_of}
use Rattle.awari_heard.proofs.SpreadBoards.{IsInjective}
use Rattle.awari_segments.specs.Segments.{AreSourcesOf, codes_to}
use Rattle.awari_block.proofs.NoteLists.{Has-append_left, Has-append_right, Has-append_cases}

-- ---- lists

pub in_contains : (xs : List Source) (x : Source) → Has xs x → Contains xs x
in_contains [] x h = elim h [ ]
in_contains (y ∷ ys) x (inl same) = (0, (omega arith), sym same)
in_contains (y ∷ ys) x (inr rest) = let r = in_contains ys x rest in (suc r.0, (let h = r.1 in omega (arith, h)), r.2)

pub contains_in : (xs : List Source) (x : Source) → Contains xs x → Has xs x
contains_in [] x (k, h, e) = absurd (omega arith)
contains_in (y ∷ ys) x (zero, h, e) = inl (sym e)
contains_in (y ∷ ys) x (suc k, h, e) = inr (contains_in ys x (k, (omega arith), e))

pub in_or_not : (xs : List ℕ) (r : ℕ) → Has xs r ⊎ (Has xs r → ⊥)
in_or_not [] r = inr (λ h. h)
in_or_not (x ∷ xs) r = by (r == x) refl (in_or_not xs r)
  where
    differ : (a b : ℕ) → (a == b) ≡ false → a ≢ b
    differ a b e = grind (arith, nat_tests)

    by : (b : Bool) → (r == x) ≡ b → Has xs r ⊎ (Has xs r → ⊥) → Has (x ∷ xs) r ⊎ (Has (x ∷ xs) r → ⊥)
    by true e rest = inl (inl (eqb-true r x e))
    by false e (inl has) = inl (inr has)
    by false e (inr none) = inr (λ h. elim h [ inl same ↦ differ r x e same | inr has ↦ none has ])

-- ---- codes for a block

pub in_codes : (span to : ℕ) (xs : List Source) (c : ℕ) → Has (codes_to span to xs) c → (y : Source) × Has xs y × (c ≡ code_of y) × (rank_of y.0 / span ≡ to)
in_codes span to [] c h = elim h [ ]
in_codes span to (x ∷ xs) c h = by (rank_of x.0 / span == to) refl h (λ k. in_codes span to xs c k)
  where
    by : (b : Bool) → (rank_of x.0 / span == to) ≡ b → Has (map code_of (cond b (x ∷ filter (λ y. rank_of y.0 / span == to) xs) (filter (λ y. rank_of y.0 / span == to) xs))) c
        → (Has (codes_to span to xs) c → (y : Source) × Has xs y × (c ≡ code_of y) × (rank_of y.0 / span ≡ to))
        → (y : Source) × Has (x ∷ xs) y × (c ≡ code_of y) × (rank_of y.0 / span ≡ to)
    by true e (inl same) more = (x, inl refl, same, eqb-true (rank_of x.0 / span) to e)
    by true e (inr rest) more = let r = more rest in (r.0, inr r.1, r.2, r.3)
    by false e rest more = let r = more rest in (r.0, inr r.1, r.2, r.3)

pub codes_in : (span to : ℕ) (xs : List Source) (y : Source) → Has xs y → rank_of y.0 / span ≡ to → Has (codes_to span to xs) (code_of y)
codes_in span to [] y h at = elim h [ ]
codes_in span to (x ∷ xs) y h at = by (rank_of x.0 / span == to) refl h (λ k. codes_in span to xs y k at)
  where
    eqb_same : (a b : ℕ) → a ≡ b → (a == b) ≡ true
    eqb_same a b e = grind (arith, nat_tests)

    by : (b : Bool) → (rank_of x.0 / span == to) ≡ b → (y ≡ x) ⊎ Has xs y → (Has xs y → Has (codes_to span to xs) (code_of y))
        → Has (map code_of (cond b (x ∷ filter (λ y. rank_of y.0 / span == to) xs) (filter (λ y. rank_of y.0 / span == to) xs))) (code_of y)
    by true e (inl same) more = inl (ap code_of same)
    by true e (inr rest) more = inr (more rest)
    by false e (inl same) more = absurd (false≢true (sym e ∙ eqb_same (rank_of x.0 / span) to (ap (λ (z : Source). rank_of z.0 / span) (sym same) ∙ at)))
    by false e (inr rest) more = more rest

-- ---- the sources of the boards of these ranks

-- a source of some board of these ranks
pub record IsFrom (level : ℕ) (ranks : List ℕ) (y : Source) : Type 0 where
  pub q : List ℕ
  pub listed : Has ranks (rank_of q)
  pub board : IsBoard q
  pub stones : sum q ≡ level
  pub from : IsBoard y.0
  pub sum_from : sum y.0 ≡ level
  pub quiet : IsQuietMove y.0 y.1 q

-- moves keep the stones
abbrev pub Keeps : Type 0
Keeps = (p q : List ℕ) (x : ℕ) → IsBoard p → IsQuietMove p x q → sum q + 0 ≡ sum p

pub source_from : (level : ℕ) (ranks : List ℕ) (xs : List Source) (y : Source) → Keeps → AreSourcesOf level ranks xs → Has xs y → IsFrom level ranks y
source_from level [] xs y keeps none h = elim (subst (λ (l : List Source). Has l y) none h) [ ]
source_from level (r ∷ ranks) xs y keeps (q, own, others, board, stones, at, are, rest, is) h =
    elim (Has-append_cases own others y (subst (λ (l : List Source). Has l y) is h)) [
      | inl mine ↦ (
          let quiet = (are.listed y.0 y.1).0 (in_contains own y mine) in
          record { q = q; listed = inl at; board = board; stones = stones; from = quiet.board; sum_from = (let k = keeps y.0 q y.1 quiet.board quiet.move in omega (arith, k, stones)); quiet = quiet.move })
      | inr other ↦ (
          let more = source_from level ranks others y keeps rest other in
          record { q = more.q; listed = inr more.listed; board = more.board; stones = more.stones; from = more.from; sum_from = more.sum_from; quiet = more.quiet })
    ]

-- each quiet move to one of them is there
pub source_all : (level : ℕ) (ranks : List ℕ) (xs : List Source) (p q : List ℕ) (x : ℕ) → IsInjective → AreSourcesOf level ranks xs → Has ranks (rank_of q) → IsBoard q → sum q ≡ level
    → IsBoard p → IsQuietMove p x q → Has xs (p, x)
source_all level [] xs p q x injective none h board stones from quiet = elim h [ ]
source_all level (r ∷ ranks) xs p q x injective (q', own, others, board', stones', at, are, rest, is) (inl same) board stones from quiet =
    subst (λ (l : List Source). Has l (p, x)) (sym is)
    (Has-append_left own others (p, x)
    (contains_in own (p, x) ((are.listed p x).1 (record { board = from; move = subst (IsQuietMove p x) (injective q q' board board' (stones ∙ sym stones') (same ∙ sym at)) quiet }))))
source_all level (r ∷ ranks) xs p q x injective (q', own, others, board', stones', at, are, rest, is) (inr later) board stones from quiet =
    subst (λ (l : List Source). Has l (p, x)) (sym is) (Has-append_right own others (p, x) (source_all level ranks others p q x injective rest later board stones from quiet))
