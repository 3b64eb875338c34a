-- The boards of a shelf are right.
use Rattle.std.proofs.Common.{◌≡◌, ℕ, zero, suc, ◌+◌, ◌<◌, ◌≤◌, ◌⊎◌, List, [], ◌∷◌, length, take, get_or, sum, fold, max, sym, ap, refl, arith, inl, inr, ◌∙◌}
use Rattle.std.proofs.lemmas.Bool.Decides.{nat_tests}
use Rattle.std.proofs.lemmas.Bool.{cases_lt}
use Rattle.std.proofs.lemmas.List.{take_more, get_or-take, get_or_past, length-take-le}
use Rattle.awari_board.specs.Rules.{IsBoard, IsMove}
use Rattle.awari_table.specs.Certificate.{Table, plies, DistancesAreLeast, IsRight}
use Rattle.awari_rank.specs.Rank.{rank_of}
use Rattle.awari_table.specs.declared.images.Entry.{Entry}
use Rattle.awari_table.specs.declared.images.Image.{Image}
use Rattle.awari_table.specs.Images.{no_image, no_entry, entry_of, table_of, greatest_dist, greatest_limit}
use Rattle.awari_board.proofs.Keeping.{sum-from_IsMove}
use Rattle.awari_table.specs.Shelves.{IsShelf}

-- the tables say the same of a board
record Agree (t u : Table) (p : List ℕ) : Type 0 where
  pub value : t.value p ≡ u.value p
  pub plan : t.plan p ≡ u.plan p
  pub dist : t.dist p ≡ u.dist p

-- each move takes a ply at least
pub plies_some : (c dist : ℕ) → 1 ≤ plies c dist
plies_some c dist = grind (arith, nat_tests)

pub plies_taken : (c dist : ℕ) → 0 < c → plies c dist ≡ 1
plies_taken c dist some = grind (arith, nat_tests)

-- a move captures, or takes one ply more than the distance that it leads to
pub plies_cases : (c dist : ℕ) → ((0 < c) × (plies c dist ≡ 1)) ⊎ ((c ≡ 0) × (plies c dist ≡ dist + 1))
plies_cases zero dist = inr (refl, refl)
plies_cases (suc c) dist = inl (omega arith, plies_taken (suc c) dist (omega arith))

-- the rules at a board look at that board and at those that its moves lead to
distances_local : (t u : Table) (p : List ℕ) → Agree t u p → ((x c : ℕ) (q : List ℕ) → IsMove p x c q → Agree t u q) → DistancesAreLeast t p → DistancesAreLeast u p
distances_local t u p here next r = record {
  even = rw (← here.value, ← here.dist) r.even;
  won = λ going up.
      let (some, all) = r.won going (rw here.value up) in
      let (x, c, q, move, gain, takes) = some in
      let there = next x c q move in (
        (x, c, q, move, rw (← here.value, ← there.value) gain, rw (← here.dist, ← there.dist) takes),
        λ y d s other gains. let reached = next y d s other in rw (← here.dist, ← reached.dist) (all y d s other (rw (here.value, reached.value) gains)),
      );
  lost = λ going down.
      let (some, all) = r.lost going (rw here.value down) in
      let (x, c, q, move, takes) = some in
      let there = next x c q move in (
        (x, c, q, move, rw (← here.dist, ← there.dist) takes),
        λ y d s other. let reached = next y d s other in rw (← here.dist, ← reached.dist) (all y d s other),
      );
  winning = λ up x c q is move. let there = next x c q move in rw (← here.dist, ← there.dist) (r.winning (rw here.value up) x c q (here.plan ∙ is) move);
}

IsRight-local : (t u : Table) (p : List ℕ) → Agree t u p → ((x c : ℕ) (q : List ℕ) → IsMove p x c q → Agree t u q) → IsRight t p → IsRight u p
IsRight-local t u p here next r = record {
  in_range = rw (← here.value, ← here.plan) r.in_range;
  ends = rw (← here.value, ← here.plan, ← here.dist) r.ends;
  has_plan = rw (← here.plan) r.has_plan;
  no_more = λ x c q move. let there = next x c q move in rw (← here.value, ← there.value) (r.no_more x c q move);
  plan_gains = λ x c q is move. let there = next x c q move in rw (← here.value, ← there.value) (r.plan_gains x c q (here.plan ∙ is) move);
  distances = distances_local t u p here next r.distances;
}

-- the levels below n say all of boards with fewer than n stones
pub entry_of-take : (levels : List Image) (n : ℕ) (p : List ℕ) → sum p < n → entry_of (take n levels) p ≡ entry_of levels p
unfolding entry_of
entry_of-take levels n p low = rw (get_or-take n levels (sum p) no_image low) refl

Agree-take : (levels : List Image) (n : ℕ) (p : List ℕ) → sum p < n → Agree (table_of (take n levels)) (table_of levels) p
Agree-take levels n p low =
    let same = entry_of-take levels n p low in
    record { value = ap (λ (e : Entry). e.value) same; plan = ap (λ (e : Entry). e.plan) same; dist = ap (λ (e : Entry). e.dist) same }

-- each level's boards are right by the whole table
pub right_from_shelf : (levels : List Image) → IsShelf levels → (p : List ℕ) → IsBoard p → sum p < length levels → IsRight (table_of levels) p
right_from_shelf levels shelf p board low =
    let level = shelf.consistent (sum p) low in
    let here : sum p ≡ (get_or levels (sum p) no_image).level = sym (level.next ∙ length-take-le (sum p) levels (omega arith)) in
    let right : IsRight (table_of (take (sum p + 1) levels)) p = rw (take_more levels (sum p) no_image low) (level.right p board here) in
    IsRight-local (table_of (take (sum p + 1) levels)) (table_of levels) p
    (Agree-take levels (sum p + 1) p (omega arith))
    (λ x c q move. let kept = sum-from_IsMove p x c q board.pits move in Agree-take levels (sum p + 1) q (omega arith))
    right

-- a running maximum is at least its start
above_start : {A : Type 0} (g : A → ℕ) (xs : List A) (a : ℕ) → a ≤ fold (λ most x. max most (g x)) a xs
above_start g [] a = omega arith
above_start g (x ∷ xs) a = omega (arith, above_start g xs (max a (g x)))

-- and at least each element
above_each : {A : Type 0} (g : A → ℕ) (xs : List A) (a k : ℕ) (d : A) → k < length xs → g (get_or xs k d) ≤ fold (λ most x. max most (g x)) a xs
above_each g [] a k d lt = absurd (omega arith)
above_each g (x ∷ xs) a zero d lt = omega (arith, above_start g xs (max a (g x)))
above_each g (x ∷ xs) a (suc k) d lt = above_each g xs (max a (g x)) k d (omega arith)

-- that of a front is at most that of the whole list
front_below : {A : Type 0} (g : A → ℕ) (n : ℕ) (xs : List A) (a : ℕ) → fold (λ most x. max most (g x)) a (take n xs) ≤ fold (λ most x. max most (g x)) a xs
front_below g zero xs a = above_start g xs a
front_below g (suc n) [] a = omega arith
front_below g (suc n) (x ∷ xs) a = front_below g n xs (max a (g x))

-- no limit of the lowest levels is above the greatest of all
pub greatest_limit-take : (levels : List Image) (n : ℕ) → greatest_limit (take n levels) ≤ greatest_limit levels
greatest_limit-take levels n = front_below (λ i. i.limit) n levels 0

-- no entry is above the greatest distance
dist_le : (entries : List Entry) (k : ℕ) → (get_or entries k no_entry).dist ≤ greatest_dist entries
dist_le entries k =
    elim (cases_lt k (length entries)) [
      | inl lt ↦ above_each (λ e. e.dist) entries 0 k no_entry lt
      | inr ge ↦ rw (get_or_past entries k no_entry ge) (omega arith)
    ]

pub limited_from_shelf : (levels : List Image) → IsShelf levels → (p : List ℕ) → sum p < length levels → (entry_of levels p).dist ≤ greatest_limit levels
unfolding entry_of
limited_from_shelf levels shelf p low =
    let level = shelf.consistent (sum p) low in
    let limit : (get_or levels (sum p) no_image).limit ≤ greatest_limit levels = above_each (λ i. i.limit) levels 0 (sum p) no_image low in
    let least = dist_le (get_or levels (sum p) no_image).entries (rank_of p) in
    let is = level.limited in
    omega arith
