-- Which distance is due of the boards of two sets of lists.
use Rattle.std.proofs.Common.{◌≡◌, ℕ, zero, suc, ◌+◌, ◌<◌, ◌≤◌, ◌++◌, min, Bool, true, false, nat_le, ◌==◌, All, IfNone, IfSome, List, [], ◌∷◌, get_or, map, Option, None, Some, refl, sym, subst, subst₂, arith}
use Rattle.std.proofs.lemmas.Bool.Decides.{nat_tests}
use Rattle.std.proofs.lemmas.List.Elements.{All-append, All-cons, All-nil}
use Rattle.awari_block.specs.Blocks.{Due, due_dist, due_rank, times_due, nearer_of}
use Rattle.awari_block.specs.Boards.{HasFresh}
use Rattle.awari_segments.specs.Lists.{dues_from, dues_of, list_at}
use Rattle.awari_block.specs.Part.{AreFresh, IsFreshIn, Part}
use Rattle.awari_block.proofs.BlockLemmas.{one_if, times_due-cons}
use Rattle.awari_block.proofs.ListParts.{All-append_first, All-append_second}

-- Nothing is due if there is no number. What there is, is the least, and some board has it.
pub record IsNearest (Empty : Type 0) (Far Has : ℕ → Type 0) (o : Option ℕ) : Type 0 where
  pub none : IfNone o Empty
  pub least : IfSome o Far
  pub some : IfSome o Has

-- so far and nearer
pub record Sinks (Empty : Type 0) (Far : ℕ → Type 0) : Type 0 where
  pub free : Empty → (n : ℕ) → Far n
  pub nearer : (m n : ℕ) → m ≤ n → Far n → Far m

pub nearest_both : (E F E' : Type 0) (P Q P' Has : ℕ → Type 0) (a b : Option ℕ) → Sinks E P → Sinks F Q → (E → F → E') → ((n : ℕ) → P n → Q n → P' n) → IsNearest E P Has a → IsNearest F Q Has b
    → IsNearest E' P' Has (nearer_of a b)
nearest_both E F E' P Q P' Has None None one two none far first second = record { none = none first.none second.none; least = tt; some = tt }
nearest_both E F E' P Q P' Has None (Some b) one two none far first second = record { none = tt; least = far b (one.free first.none b) second.least; some = second.some }
nearest_both E F E' P Q P' Has (Some a) None one two none far first second = record { none = tt; least = far a first.least (two.free second.none a); some = first.some }
nearest_both E F E' P Q P' Has (Some a) (Some b) one two none far first second = record {
  none = tt;
  least = far (min a b) (one.nearer (min a b) a (omega arith) first.least) (two.nearer (min a b) b (omega arith) second.least);
  some = by (nat_le a b) refl;
}
  where
    up : (m n : ℕ) → nat_le m n ≡ true → m ≤ n
    up m n e = grind (arith, nat_tests)

    down : (m n : ℕ) → nat_le m n ≡ false → n < m
    down m n e = grind (arith, nat_tests)

    by : (t : Bool) → nat_le a b ≡ t → Has (min a b)
    by true e = let less = up a b e in subst Has (let is : a ≡ min a b = omega (arith, less) in is) first.some
    by false e = let more = down a b e in subst Has (let is : b ≡ min a b = omega (arith, more) in is) second.some

-- ---- in lists

-- no board of these is nearer
abbrev pub AreFar : List Due → ℕ → Type 0
AreFar fresh n = All (λ f. n ≤ due_dist f) fresh

pub far_sinks : (fresh : List Due) → Sinks (fresh ≡ []) (AreFar fresh)
far_sinks fresh = record {
  free = λ none n. subst (λ fs. AreFar fs n) (sym none) (All-nil (λ f. n ≤ due_dist f));
  nearer = λ m n less all k d few. (let h = all k d few in omega (arith, h, less));
}

-- what holds of all boards holds of one of the list at its distance
pub of_list : (P : Due → Type 0) (ls : List (List ℕ)) (d n k value : ℕ) (rest : List ℕ) → n ≡ d + k → All P (dues_from d ls) → list_at ls k ≡ value ∷ rest → P (n, value)
of_list P [] d n k value rest is all has = absurd (cc)
of_list P (l ∷ ls) d n zero value rest is all has =
    let first : (l ≡ value ∷ rest) = has in
    let at : d ≡ n = omega (arith, is) in
    subst (λ m. P (m, value)) at (head l first all)
  where
    head : (l : List ℕ) → l ≡ value ∷ rest → All P (map (λ r. (d, r)) l ++ dues_from (suc d) ls) → P (d, value)
    head l first all = subst (λ (xs : List ℕ). All P (map (λ r. (d, r)) xs ++ dues_from (suc d) ls)) first all 0 (0, 0) (omega arith)
of_list P (l ∷ ls) d n (suc k) value rest is all has = of_list P ls (suc d) n k value rest (omega (arith, is)) (All-append_second P (map (λ r. (d, r)) l) (dues_from (suc d) ls) all) has

-- some fresh board of the part has this distance, and it is not nearer than the first number
abbrev pub HasAt : ℕ → Part → ℕ → Type 0
HasAt from part n = (from ≤ n) × HasFresh part n

-- the board of this is fresh
abbrev pub IsAmong : Part → Due → Type 0
IsAmong part f = 0 < times_due part.fresh (due_rank f)

pub all_among : (fs : List Due) → All (λ f. 0 < times_due fs (due_rank f)) fs
all_among [] = All-nil (λ (f : Due). 0 < times_due [] (due_rank f))
all_among (f ∷ fs) =
    All-cons (λ (g : Due). 0 < times_due (f ∷ fs) (due_rank g)) f fs (let cons = times_due-cons f fs (due_rank f) in let one = here (due_rank f) in omega (arith, cons, one))
    (λ k d h. let was = all_among fs k d h in let cons = times_due-cons f fs (due_rank (get_or fs k d)) in omega (arith, was, cons))
  where
    here : (a : ℕ) → one_if (a == a) ≡ 1
    here a = grind (arith, nat_tests)

pub list_nearest : (part : Part) (from : ℕ) (ls : List (List ℕ)) (o : Option ℕ) → All (IsFreshIn part) (dues_of ls) → All (IsAmong part) (dues_of ls) → IfNone o (dues_of ls ≡ []) → IfSome o (λ n. (from ≤ n) × AreFar (dues_of ls) n)
    → IfSome o (λ n. (value : ℕ) × (rest : List ℕ) × (list_at ls n ≡ value ∷ rest)) → IsNearest (dues_of ls ≡ []) (AreFar (dues_of ls)) (HasAt from part) o
list_nearest part from ls None fresh among none least some = record { none = none; least = tt; some = tt }
list_nearest part from ls (Some n) fresh among none least some =
    let in_part = of_list (IsFreshIn part) ls 0 n n some.0 some.1 (omega arith) fresh some.2 in
    let listed = of_list (IsAmong part) ls 0 n n some.0 some.1 (omega arith) among some.2 in
    record { none = tt; least = least.1; some = (least.0, (some.0, in_part.0, in_part.1, in_part.3, listed)) }

-- and of both kinds of boards
pub both_nearest : (part : Part) (lost won : List (List ℕ)) (from : ℕ) (x y : Option ℕ) → dues_of lost ++ dues_of won ≡ part.fresh → AreFresh part
    → IfNone x (dues_of lost ≡ []) → IfSome x (λ n. (from ≤ n) × AreFar (dues_of lost) n) → IfSome x (λ n. (value : ℕ) × (rest : List ℕ) × (list_at lost n ≡ value ∷ rest))
    → IfNone y (dues_of won ≡ []) → IfSome y (λ n. (from ≤ n) × AreFar (dues_of won) n) → IfSome y (λ n. (value : ℕ) × (rest : List ℕ) × (list_at won n ≡ value ∷ rest))
    → (o : Option ℕ) → o ≡ nearer_of x y → IsNearest (part.fresh ≡ []) (AreFar part.fresh) (HasAt from part) o
both_nearest part lost won from x y listed fresh none_lost least_lost some_lost none_won least_won some_won o is =
    subst (IsNearest (part.fresh ≡ []) (AreFar part.fresh) (HasAt from part)) (sym is)
    (subst (λ (fs : List Due). IsNearest (fs ≡ []) (AreFar fs) (HasAt from part) (nearer_of x y)) listed
    (nearest_both (dues_of lost ≡ []) (dues_of won ≡ []) (dues_of lost ++ dues_of won ≡ []) (AreFar (dues_of lost)) (AreFar (dues_of won)) (AreFar (dues_of lost ++ dues_of won)) (HasAt from part) x y
    (far_sinks (dues_of lost)) (far_sinks (dues_of won)) (no_more (dues_of lost) (dues_of won))
    (λ n. All-append (λ (f : Due). n ≤ due_dist f) (dues_of lost) (dues_of won))
    (list_nearest part from lost x (All-append_first (IsFreshIn part) (dues_of lost) (dues_of won) boards) (All-append_first (IsAmong part) (dues_of lost) (dues_of won) among) none_lost least_lost some_lost)
    (list_nearest part from won y (All-append_second (IsFreshIn part) (dues_of lost) (dues_of won) boards) (All-append_second (IsAmong part) (dues_of lost) (dues_of won) among) none_won least_won some_won)))
  where
    boards : All (IsFreshIn part) (dues_of lost ++ dues_of won)
    boards = subst (All (IsFreshIn part)) (sym listed) fresh.boards

    among : All (IsAmong part) (dues_of lost ++ dues_of won)
    among = subst (λ (fs : List Due). All (IsAmong part) fs) (sym listed) (all_among part.fresh)

    no_more : (xs ys : List Due) → xs ≡ [] → ys ≡ [] → xs ++ ys ≡ []
    no_more xs ys first second = subst₂ (λ (us vs : List Due). us ++ vs ≡ []) (sym first) (sym second) refl
