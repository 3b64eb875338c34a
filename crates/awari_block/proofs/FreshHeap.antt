-- The fresh boards that are kept in a heap: which comes first.
use Rattle.std.proofs.Common.{◌≡◌, ℕ, ◌<◌, ◌≤◌, false, List, [], ◌∷◌, map, length, All, refl, sym, ap, subst, ◌∙◌, arith, get_or}
use Rattle.std.proofs.lemmas.Bool.{true≢false}
use Rattle.std.proofs.lemmas.Bool.Decides.{nat_tests}
use Rattle.std.proofs.lemmas.List.Elements.{All-nil, All-cons, All-head}
use Rattle.std.proofs.lemmas.List.Sorted.{All-permutation, IsPermutation-sym}
use Rattle.std.proofs.HeapSift.{at_most}
use Rattle.std.specs.BinaryHeap.{IsUpperBound}
use Rattle.std.specs.List.{Any}
use Rattle.std.specs.List.Sorted.{IsPermutation}
use Rattle.std.specs.Ordering.{is_gt, is_lt, nat_cmp, ordering_then}
use Rattle.std.specs.Prelude.{Some, ℤ}
use Rattle.std.specs.declared.cmp.Ordering.{Ordering}
use Rattle.std.specs.declared.cmp.Ordering.TheVariants.{Less, Equal, Greater}
use Rattle.std.specs.declared.cmp.Reverse.{Reverse}
use Rattle.awari_block.specs.Blocks.{Due, due_dist, due_rank}
use Rattle.awari_block.specs.FreshHeap.{due_cmp, due_in}
use Rattle.awari_block.specs.Part.{Part, AreFresh, InBlock, IsFreshIn, IsLeastDue, settled_at}

-- what comes first decides unless it is `Equal`
then_not_less : (o p : Ordering) → is_lt (ordering_then o p) ≡ false → (is_lt o ≡ false) × (o ≡ Equal → is_lt p ≡ false)
then_not_less Less p h = absurd (true≢false h)
then_not_less Equal p h = (refl, λ e. h)
then_not_less Greater p h = (refl, λ e. absurd (true≢false (ap is_gt e)))

same_cmp : (a b : ℕ) → a ≡ b → nat_cmp a b ≡ Equal
same_cmp a b e = grind (arith, nat_tests)

-- g is not before f
abbrev IsNotBefore : Due → Due → Type 0
IsNotBefore f g = (due_dist f ≤ due_dist g) × (due_dist g ≡ due_dist f → due_rank f ≤ due_rank g)

-- none of these comes before this one
abbrev pub IsFirstOf : Due → List Due → Type 0
IsFirstOf f fresh = All (IsNotBefore f) fresh

not_before : (f g : Due) → is_lt (due_cmp g f) ≡ false → IsNotBefore f g
not_before f g h =
    let both = then_not_less (nat_cmp (due_dist g) (due_dist f)) (nat_cmp (due_rank g) (due_rank f)) h in
    (at_most (due_dist g) (due_dist f) both.0, λ same. at_most (due_rank g) (due_rank f) (both.1 (same_cmp (due_dist g) (due_dist f) same)))

-- the greatest of the heap comes first
pub first_of_top : (top : Reverse Due) (items : List (Reverse Due)) → IsUpperBound (λ a b. due_cmp (due_in b) (due_in a)) top items → IsFirstOf (due_in top) (map due_in items)
first_of_top top [] h = All-nil (IsNotBefore (due_in top))
first_of_top top (r ∷ items) h = All-cons (IsNotBefore (due_in top)) (due_in r) (map due_in items) (not_before (due_in top) (due_in r) h.0) (first_of_top top items h.1)

-- what is due: some fresh board is so near, and none is nearer
pub record IsDueNow (part : Part) (dist : ℕ) : Type 0 where
  pub least : IsLeastDue part (Some dist)
  pub timely : part.wave ≤ dist
  pub settled : (rank : ℕ) × (v : ℤ) × InBlock part rank × (settled_at part rank ≡ Some (v, dist))

-- the top one is at the head of the fresh ones
pub top_at : (top : Reverse Due) (items : List (Reverse Due)) → 0 < length items → top ≡ get_or items 0 top → (rest : List Due) × (map due_in items ≡ due_in top ∷ rest)
top_at top [] some at = absurd (omega (arith, some))
top_at top (r ∷ items) some at = (map due_in items, ap (λ (q : Reverse Due). due_in q ∷ map due_in items) (sym at))

pub due_of_first : (part : Part) (f : Due) → (rest : List Due) × (part.fresh ≡ f ∷ rest) → IsFirstOf f part.fresh → AreFresh part → IsDueNow part (due_dist f)
due_of_first part f (rest, is) first are =
    let all : All (IsFreshIn part) (f ∷ rest) = subst (λ (l : List Due). All (IsFreshIn part) l) is are.boards in
    let board : IsFreshIn part f = All-head (IsFreshIn part) f rest all in
    record {
      least = (subst (λ (l : List Due). Any (λ g. due_dist g ≡ due_dist f) l) (sym is) (0, f, omega arith, refl, refl), λ k d h. (first k d h).0);
      timely = board.4;
      settled = (due_rank f, board.0, board.1, board.3);
    }

-- the first is taken, while some board is of this wave and none is nearer
module _ (wave : ℕ) (fresh rest : List Due) (f : Due) (moved : IsPermutation fresh (f ∷ rest)) (first : IsFirstOf f fresh) (some : Any (λ g. due_dist g ≡ wave) fresh) (least : All (λ g. wave ≤ due_dist g) fresh) where
  first_at : due_dist f ≡ wave
  first_at =
      let low = (first some.0 some.1 some.2).0 in
      let at = ap due_dist some.3 ∙ some.4 in
      let high = All-head (λ g. wave ≤ due_dist g) f rest (All-permutation (λ g. wave ≤ due_dist g) fresh (f ∷ rest) moved least) in
      omega (arith, low, at, high)

  pub first_moved : IsPermutation ((wave, due_rank f) ∷ rest) fresh
  first_moved = subst (λ d. IsPermutation ((d, due_rank f) ∷ rest) fresh) first_at (IsPermutation-sym fresh (f ∷ rest) moved)

  pub first_least : All (λ g. (wave ≤ due_dist g) × (due_dist g ≡ wave → due_rank f ≤ due_rank g)) fresh
  first_least = λ k d h. (least k d h, λ near. (first k d h).1 (near ∙ sym first_at))
