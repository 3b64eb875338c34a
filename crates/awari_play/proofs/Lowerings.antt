-- Entries whose distances are lowered one after another, and the image that is made of them.
use Rattle.std.proofs.Common.{true≢false, ◌≡◌, ℕ, ◌+◌, ◌<◌, ◌≤◌, ◌⊎◌, inl, inr, min, Bool, true, false, List, [], ◌∷◌, ◌++◌, length, get_or, set, sum, ℤ, pos, neg_ℤ, ◌-ℤ◌, ◌≤ℤ◌, ◌<ℤ◌, refl, sym, ap, ◌∙◌, subst, arith, length-append, length-set, get_or-set_same, get_or-set_other}
use Rattle.std.proofs.lemmas.Bool.{cases_lt, cases_eq}
use Rattle.std.proofs.lemmas.Int.{ints}
use Rattle.std.proofs.lemmas.List.Sums.{sum_by-set}
use Rattle.awari_board.specs.Rules.{IsBoard, IsMove, IsEnded, captured, next_board}
use Rattle.awari_rank.specs.Rank.{rank_of, size_of}
use Rattle.awari_rank.proofs.Ranking.{rank_fixes}
use Rattle.awari_table.specs.declared.images.Entry.{Entry}
use Rattle.awari_table.specs.declared.images.Image.{Image}
use Rattle.awari_table.specs.Certificate.{Table, IsRight, IsRightBy}
use Rattle.awari_table.specs.Images.{entry_of, table_of, no_entry}
use Rattle.awari_table.specs.Shelves.{Consistent, ConsistentBy}
use Rattle.awari_theory.specs.Older.{DistancesFall}
use Rattle.awari_table.proofs.CertificateLemmas.{plies_cases}
use Rattle.awari_table.proofs.EntryLemmas.{entry_of-append, entry_of-rank, entry_of-above}
use Rattle.awari_play.specs.Least.{NoFarther}
use Rattle.awari_play.specs.Lowering.{IsAbove, IsByMoves, IsBelow, IsBelowTo, AreAbove, AreBelow, AreBelowTo, all_plies, Lowers, LowersBoard, Fell}
use Rattle.awari_play.specs.Plan.{Serves, IsLowest}
use Rattle.awari_play.specs.Planning.{SameSettled, with_top}
use Rattle.awari_play.proofs.Planned.{IsNextImage}
use Rattle.awari_play.proofs.Serving.{lowest_own, lowest_ended, lowest_there, lowest_serves}
use Rattle.awari_play.proofs.Lowered.{IsSharp, sharp, sharp_alike, above_keeps, above_lowers, above_falling, below_any, below_near, below_by_moves, below_keeps, below_falls, stays_beyond}
use Rattle.awari_theory.proofs.Sides.{sign_cases}

-- what two images say of a board is related as their entries are
related : (R : Entry → Entry → Type 0) → ((e : Entry) → R e e) → (shelf : List Image) (a b : Image)
    → ((k : ℕ) → R (get_or b.entries k no_entry) (get_or a.entries k no_entry)) → (p : List ℕ) → R (entry_of (shelf ++ b ∷ []) p) (entry_of (shelf ++ a ∷ []) p)
related R same shelf a b each p = elim (cases_lt (sum p) (length shelf)) [
  | inl low ↦ both _ _ _ (entry_of-append shelf (b ∷ []) p low) (entry_of-append shelf (a ∷ []) p low)
  | inr high ↦ elim (cases_lt (length shelf) (sum p)) [
    | inl above ↦
        both _ _ _ (entry_of-above (shelf ++ b ∷ []) p (omega (arith, above, length-append shelf (b ∷ []))))
        (entry_of-above (shelf ++ a ∷ []) p (omega (arith, above, length-append shelf (a ∷ []))))
    | inr not_above ↦
        let top : sum p ≡ length shelf = omega (arith, high, not_above) in
        subst (λ e. R e (entry_of (shelf ++ a ∷ []) p)) (sym (entry_of-rank shelf b p (rank_of p) top refl))
        (subst (λ e. R (get_or b.entries (rank_of p) no_entry) e) (sym (entry_of-rank shelf a p (rank_of p) top refl)) (each (rank_of p)))
  ]
]
  where
    both : (x y z : Entry) → x ≡ z → y ≡ z → R x y
    both x y z e f = subst (λ i. R i y) (sym e) (subst (λ i. R z i) (sym f) (same z))

-- the same value, and no greater distance
abbrev IsNoFarther : Entry → Entry → Type 0
IsNoFarther new old = (new.value ≡ old.value) × (new.dist ≤ old.dist)

nearer_entries : (shelf : List Image) (a b : Image) → NoFarther a.entries b.entries → (p : List ℕ) → IsNoFarther (entry_of (shelf ++ b ∷ []) p) (entry_of (shelf ++ a ∷ []) p)
nearer_entries shelf a b nearer = related IsNoFarther (λ e. (refl, omega arith)) shelf a b (λ k. (nearer.value k, nearer.dist k))

pub no_farther-then : (a b c : List Entry) → NoFarther a b → NoFarther b c → NoFarther a c
no_farther-then a b c first then_ = record {
  size = then_.size ∙ first.size;
  value = λ k. then_.value k ∙ first.value k;
  dist = λ k. let near = first.dist k in let nearer = then_.dist k in omega (arith, near, nearer);
}

-- ---- one distance is lowered

abbrev image_of : List Image → List Entry → Image
image_of shelf entries = record { level = length shelf; limit = 0; entries = entries }

-- some distances fell, or none of those below this rank had to
abbrev pub FellBelow : List Image → List Entry → List Entry → ℕ → Bool → Type 0
FellBelow shelf old now rank true = all_plies now < all_plies old
FellBelow shelf old now rank false =
    (now ≡ old) × ((p : List ℕ) → IsBoard p → sum p ≡ length shelf → rank_of p < rank → IsBelow (table_of (with_top shelf old)) p)

pub record IsLowering (shelf : List Image) (old now : List Entry) (near rank : ℕ) (some : Bool) : Type 0 where
  pub nearer : NoFarther old now
  pub above : AreAbove shelf now
  pub below : AreBelowTo near shelf now
  pub done : (p : List ℕ) → IsBoard p → sum p ≡ length shelf → rank_of p < rank → IsBelowTo (near + 1) (table_of (with_top shelf now)) p
  pub fell : FellBelow shelf old now rank some

no_more_plies : (shelf : List Image) (old now : List Entry) (rank : ℕ) (fell : Bool) → FellBelow shelf old now rank fell → all_plies now ≤ all_plies old
no_more_plies shelf old now rank true h = omega (arith, h)
no_more_plies shelf old now rank false h = omega (arith, ap all_plies h.0)

-- one board more
module _ (shelf : List Image) (old now : List Entry) (near rank : ℕ) (found : (p : List ℕ) → IsBoard p → sum p ≡ length shelf → rank_of p ≡ rank → IsBelow (table_of (with_top shelf now)) p) where
  fell_more : (fell : Bool) → FellBelow shelf old now rank fell → FellBelow shelf old now (rank + 1) fell
  fell_more true h = h
  fell_more false (same, before) = (
    same,
    λ p is stones below. elim (cases_lt (rank_of p) rank) [
      | inl lt ↦ before p is stones lt
      | inr ge ↦ subst (λ (es : List Entry). IsBelow (table_of (with_top shelf es)) p) same (found p is stones (omega (arith, ge, below)))
    ],
  )

  pub lowering-more : (fell : Bool) → IsLowering shelf old now near rank fell → IsLowering shelf old now near (rank + 1) fell
  lowering-more fell h = record {
    nearer = h.nearer;
    above = h.above;
    below = h.below;
    done = λ p is stones below. elim (cases_lt (rank_of p) rank) [
      | inl lt ↦ h.done p is stones lt
      | inr ge ↦ below_any (table_of (with_top shelf now)) p (near + 1) (found p is stones (omega (arith, ge, below)))
    ];
    fell = fell_more fell h.fell;
  }

-- a board that is near already
pub lowering-passed : (shelf : List Image) (old now : List Entry) (near rank : ℕ) (fell : Bool) → IsLowering shelf old now near rank fell → (get_or now rank no_entry).dist ≤ near
    → IsLowering shelf old now near (rank + 1) fell
lowering-passed shelf old now near rank fell h here =
    lowering-more shelf old now near rank
    (λ p is stones ranked.
    let reads = ap (λ (e : Entry). e.dist) (entry_of-rank shelf (image_of shelf now) p rank stones ranked) in
    below_near (table_of (with_top shelf now)) p near (omega (arith, reads, here)) (h.below p is stones))
    fell h

module _ (shelf : List Image) (now : List Entry) (rank : ℕ) (board : List ℕ) (dist : ℕ) (inside : rank < length now) (is_board : IsBoard board) (on_level : sum board ≡ length shelf)
    (ranked : rank_of board ≡ rank) (by : IsByMoves (table_of (with_top shelf now)) board dist) where
  abbrev put : Entry
  put = record (get_or now rank no_entry) { dist = dist }

  put_nearer : dist < (get_or now rank no_entry).dist → NoFarther now (set now rank put)
  put_nearer less = record {
    size = length-set now rank put;
    value = λ k. elim (cases_eq k rank) [
      | inl here ↦
          ap (λ j. (get_or (set now rank put) j no_entry).value) here ∙ ap (λ (e : Entry). e.value) (get_or-set_same now rank put no_entry inside) ∙ ap (λ j. (get_or now j no_entry).value) (sym here)
      | inr other ↦ ap (λ (e : Entry). e.value) (get_or-set_other now rank k put no_entry other)
    ];
    dist = λ k. elim (cases_eq k rank) [
      | inl here ↦
          let new = ap (λ j. (get_or (set now rank put) j no_entry).dist) here ∙ ap (λ (e : Entry). e.dist) (get_or-set_same now rank put no_entry inside) in
          let old = ap (λ j. (get_or now j no_entry).dist) here in
          omega (arith, new, old, less)
      | inr other ↦ omega (arith, ap (λ (e : Entry). e.dist) (get_or-set_other now rank k put no_entry other))
    ];
  }

  put_above : dist < (get_or now rank no_entry).dist → AreAbove shelf now → AreAbove shelf (set now rank put)
  put_above less above p is stones =
      let t = table_of (with_top shelf now) in
      let u = table_of (with_top shelf (set now rank put)) in
      let near = nearer_entries shelf (image_of shelf now) (image_of shelf (set now rank put)) (put_nearer less) in
      let values : (q : List ℕ) → u.value q ≡ t.value q = λ q. (near q).0 in
      let dists : (q : List ℕ) → u.dist q ≤ t.dist q = λ q. (near q).1 in
      let new = entry_of-rank shelf (image_of shelf (set now rank put)) p (rank_of p) stones refl in
      let old = entry_of-rank shelf (image_of shelf now) p (rank_of p) stones refl in
      elim (cases_eq (rank_of p) rank) [
        | inl here ↦
            let same : board ≡ p = rank_fixes board p is_board.pits is.pits (on_level ∙ sym stones) (ranked ∙ sym here) in
            let now_dist : u.dist p ≡ dist
            = ap (λ (e : Entry). e.dist) new ∙ ap (λ j. (get_or (set now rank put) j no_entry).dist) here ∙ ap (λ (e : Entry). e.dist) (get_or-set_same now rank put no_entry inside) in
            let was_dist : t.dist p ≡ (get_or now rank no_entry).dist = ap (λ (e : Entry). e.dist) old ∙ ap (λ j. (get_or now j no_entry).dist) here in
            above_lowers t u values p dists (omega (arith, now_dist, was_dist, less)) (subst (IsByMoves t p) (sym now_dist) (subst (λ b. IsByMoves t b dist) same by)) (above p is stones)
        | inr other ↦
            let kept : u.dist p ≡ t.dist p
            = ap (λ (e : Entry). e.dist) new ∙ ap (λ (e : Entry). e.dist) (get_or-set_other now rank (rank_of p) put no_entry other) ∙ sym (ap (λ (e : Entry). e.dist) old) in
            above_keeps t u values p dists kept (above p is stones)
      ]

  -- what is near stays
  put_held : (near : ℕ) → dist < (get_or now rank no_entry).dist → near ≤ dist
      → (q : List ℕ) → min ((table_of (with_top shelf (set now rank put))).dist q) near ≡ min ((table_of (with_top shelf now)).dist q) near
  put_held near less beyond =
      related (λ (x y : Entry). min x.dist near ≡ min y.dist near) (λ e. refl) shelf (image_of shelf now) (image_of shelf (set now rank put)) (λ k. elim (cases_eq k rank) [
        | inl here ↦
            let new = ap (λ j. (get_or (set now rank put) j no_entry).dist) here ∙ ap (λ (e : Entry). e.dist) (get_or-set_same now rank put no_entry inside) in
            let old = ap (λ j. (get_or now j no_entry).dist) here in
            omega (arith, new, old, less, beyond)
        | inr other ↦ ap (λ (e : Entry). min e.dist near) (get_or-set_other now rank k put no_entry other)
      ])

  -- the board of this rank is that board
  is_here : (p : List ℕ) → IsBoard p → sum p ≡ length shelf → rank_of p ≡ rank → board ≡ p
  is_here p is stones here = rank_fixes board p is_board.pits is.pits (on_level ∙ sym stones) (ranked ∙ sym here)

  pub lowering-fell : (old new : List Entry) (near : ℕ) (fell : Bool) → IsLowering shelf old now near rank fell → near < (get_or now rank no_entry).dist → Lowers now new rank dist true
      → IsLowering shelf old new near (rank + 1) true
  lowering-fell old new near fell h far (less, is) = subst (λ (es : List Entry). IsLowering shelf old es near (rank + 1) true) (sym is) (record {
    nearer = no_farther-then old now (set now rank put) h.nearer (put_nearer less);
    above = put_above less h.above;
    below = λ p is stones. below_keeps t u values p near near (omega arith) held (dists p) (h.below p is stones);
    done = λ p is stones below. elim (cases_lt (rank_of p) rank) [
      | inl lt ↦ below_keeps t u values p near (near + 1) (omega arith) held (dists p) (h.done p is stones lt)
      | inr ge ↦
          let here : rank_of p ≡ rank = omega (arith, ge, below) in
          let now_dist : u.dist p ≡ dist
          = ap (λ (e : Entry). e.dist) (entry_of-rank shelf (image_of shelf (set now rank put)) p rank stones here) ∙ ap (λ (e : Entry). e.dist) (get_or-set_same now rank put no_entry inside) in
          below_falls t u values p near held (subst (IsByMoves t p) (sym now_dist) (subst (λ b. IsByMoves t b dist) (is_here p is stones here) by))
    ];
    fell = (
        let sums = sum_by-set (λ (e : Entry). e.dist) now rank put no_entry inside in
        let before = no_more_plies shelf old now rank fell h.fell in
        omega (arith, sums, before, less));
  })
    where
      t : Table
      t = table_of (with_top shelf now)

      u : Table
      u = table_of (with_top shelf (set now rank put))

      values : (q : List ℕ) → u.value q ≡ t.value q
      values q = (nearer_entries shelf (image_of shelf now) (image_of shelf (set now rank put)) (put_nearer less) q).0

      dists : (q : List ℕ) → u.dist q ≤ t.dist q
      dists q = (nearer_entries shelf (image_of shelf now) (image_of shelf (set now rank put)) (put_nearer less) q).1

      own : t.dist board ≡ (get_or now rank no_entry).dist
      own = ap (λ (e : Entry). e.dist) (entry_of-rank shelf (image_of shelf now) board rank on_level ranked)

      held : (q : List ℕ) → min (u.dist q) near ≡ min (t.dist q) near
      held = put_held near less (stays_beyond t board near dist (h.below board is_board on_level) (omega (arith, own, far)) by (omega (arith, own, less)))

  pub lowering-kept : (old new : List Entry) (near : ℕ) (fell : Bool) → IsLowering shelf old now near rank fell → Lowers now new rank dist false → IsLowering shelf old new near (rank + 1) fell
  lowering-kept old new near fell h (is, least) =
      subst (λ (es : List Entry). IsLowering shelf old es near (rank + 1) fell) (sym is)
      (lowering-more shelf old now near rank
      (λ p is stones here.
      let entry = entry_of-rank shelf (image_of shelf now) p rank stones here in
      let reads : (table_of (with_top shelf now)).dist p ≡ (get_or now rank no_entry).dist = ap (λ (e : Entry). e.dist) entry in
      below_by_moves (table_of (with_top shelf now)) p dist (subst (λ b. IsByMoves (table_of (with_top shelf now)) b dist) (is_here p is stones here) by) (omega (arith, reads, least)))
      fell h)

-- the distance of the board of this rank fell
pub lowering-true : (shelf : List Image) (old now new : List Entry) (near rank : ℕ) (some : Bool) → rank < length now
    → IsLowering shelf old now near rank some → LowersBoard shelf now new near rank true → IsLowering shelf old new near (rank + 1) true
lowering-true shelf old now new near rank some inside h (inl (near_it, same, none)) = absurd (true≢false none)
lowering-true shelf old now new near rank some inside h (inr (far, (board, dist, is, stones, ranked, by, lowers))) =
    lowering-fell shelf now rank board dist inside is stones ranked by old new near some h far lowers

-- or it did not
pub lowering-false : (shelf : List Image) (old now new : List Entry) (near rank : ℕ) (some : Bool) → rank < length now
    → IsLowering shelf old now near rank some → LowersBoard shelf now new near rank false → IsLowering shelf old new near (rank + 1) some
lowering-false shelf old now new near rank some inside h (inl (here, same, none)) =
    subst (λ (es : List Entry). IsLowering shelf old es near (rank + 1) some) (sym same) (lowering-passed shelf old now near rank some h here)
lowering-false shelf old now new near rank some inside h (inr (far, (board, dist, is, stones, ranked, by, lowers))) =
    lowering-kept shelf now rank board dist inside is stones ranked by old new near some h lowers

-- all of them
pub fell_all : (shelf : List Image) (old now : List Entry) (near rank : ℕ) (fell : Bool) → size_of (length shelf) ≤ rank → ((p : List ℕ) → IsBoard p → sum p ≡ length shelf → rank_of p < size_of (length shelf))
    → IsLowering shelf old now near rank fell → Fell shelf old now near fell
fell_all shelf old now near rank true all ranks h = (h.fell, λ p is stones. h.done p is stones (let below = ranks p is stones in omega (arith, below, all)))
fell_all shelf old now near rank false all ranks h = (h.fell.0, λ p is stones. h.fell.1 p is stones (let below = ranks p is stones in omega (arith, below, all)))

-- ---- the image

-- no distance of an image that is consistent by the old rules is below what its moves say
pub above_image : (shelf : List Image) (image : Image) → ConsistentBy DistancesFall shelf image → AreAbove shelf image.entries
above_image shelf image old p is stones =
    let t = table_of (shelf ++ image ∷ []) in
    let u = table_of (with_top shelf image.entries) in
    let same : (q : List ℕ) → entry_of (with_top shelf image.entries) q ≡ entry_of (shelf ++ image ∷ []) q
    = related (λ x y. x ≡ y) (λ e. refl) shelf image (image_of shelf image.entries) (λ k. refl) in
    above_keeps t u (λ q. ap (λ (e : Entry). e.value) (same q)) p (λ q. omega (arith, ap (λ (e : Entry). e.dist) (same q))) (ap (λ (e : Entry). e.dist) (same p))
    (above_falling t p (old.right p is (stones ∙ sym old.next)))

module _ (shelf : List Image) (image last : Image) (lowered : List Entry) (old : ConsistentBy DistancesFall shelf image) (nearer : NoFarther image.entries lowered) (above : AreAbove shelf lowered)
    (below : AreBelow shelf lowered) (same : SameSettled lowered last.entries) (finished : IsNextImage shelf last) where
  abbrev first : Table
  first = table_of (shelf ++ image ∷ [])

  abbrev middle : Table
  middle = table_of (with_top shelf lowered)

  abbrev table : Table
  table = table_of (shelf ++ last ∷ [])

  values_first : (q : List ℕ) → middle.value q ≡ first.value q
  values_first q = (nearer_entries shelf image (image_of shelf lowered) nearer q).0

  alike : (q : List ℕ) → (table.value q ≡ middle.value q) × (table.dist q ≡ middle.dist q)
  alike = related (λ x y. (x.value ≡ y.value) × (x.dist ≡ y.dist)) (λ e. (refl, refl)) shelf (image_of shelf lowered) last (λ k. (same.value k, same.dist k))

  values : (q : List ℕ) → table.value q ≡ first.value q
  values q = (alike q).0 ∙ values_first q

  rules : (p : List ℕ) → IsBoard p → sum p ≡ length shelf → IsRight table p
  rules p is stones = record {
    in_range = (subst (λ v. neg_ℤ (pos (sum p)) ≤ℤ v) (sym (values p)) r.in_range.0, subst (λ v. v ≤ℤ pos (sum p)) (sym (values p)) r.in_range.1, lowest_own table p (table.plan p) lowest);
    ends = λ g end. (values p ∙ (r.ends g end).0, lowest_ended table p (table.plan p) lowest end.stuck, here.ends end.stuck);
    has_plan = λ going. let some = serves going in lowest_there table p some.0 (table.plan p) lowest some.1;
    no_more = λ x c q move. let more = r.no_more x c q move in omega (arith, ints, more, values q, values p);
    plan_gains = λ x c q plan move.
        let (d, s, serving, gain, near) = lowest_serves table p x (table.plan p) lowest plan in
        subst (λ n. (pos n -ℤ table.value q) ≡ table.value p) (serving.captures ∙ sym move.captures)
        (subst (λ b. (pos d -ℤ table.value b) ≡ table.value p) (serving.leaves ∙ sym move.leaves) gain);
    distances = record {
      even = here.even;
      won = sharp_here.won;
      lost = sharp_here.lost;
      winning = λ up x c q plan move.
          let (d, s, serving, gain, near) = lowest_serves table p x (table.plan p) lowest plan in
          subst (λ n. (0 < n) ⊎ (table.dist q < table.dist p)) (serving.captures ∙ sym move.captures)
          (subst (λ b. (0 < d) ⊎ (table.dist b < table.dist p)) (serving.leaves ∙ sym move.leaves) (near up));
    };
  }
    where
      r : IsRightBy DistancesFall first p
      r = old.right p is (stones ∙ sym old.next)

      lowest : IsLowest table p (table.plan p)
      lowest = finished.planned p is stones

      here : IsAbove table p
      here = above_keeps middle table (λ q. (alike q).0) p (λ q. omega (arith, (alike q).1)) (alike p).1 (above p is stones)

      sharp_here : IsSharp table p
      sharp_here =
          sharp_alike middle table (λ q. (alike q).0) p (λ q. (alike q).1)
          (sharp middle p (λ going. let plan = r.has_plan going in (plan.0, plan.2)) (above p is stones) (below p is stones))

      serves : (IsEnded p → ⊥) → (x : ℕ) × Serves table p x
      serves going = elim (sign_cases (table.value p)) [
        | inr up ↦
            let (x, c, q, move, gain, takes) = (sharp_here.won going up).0 in (
              x,
              (
                c,
                q,
                move,
                gain,
                λ _. elim (plies_cases c (table.dist q)) [ inl taken ↦ inl taken.0 | inr quiet ↦ inr (omega (arith, takes, quiet.1)) ],
              ),
            )
        | inl low ↦
            let (x, plan, legal) = r.has_plan going in
            let move : IsMove p x (captured p x) (next_board p x) = record { legal = legal; captures = refl; leaves = refl } in
            let gain = r.plan_gains x _ _ plan move in
            (x, (captured p x, next_board p x, move, omega (arith, ints, gain, values p, values (next_board p x)), λ up. absurd (omega (arith, ints, low, up))))
      ]

  pub least_consistent : Consistent shelf last
  least_consistent = record {
    next = finished.level;
    low = (let few = old.low in let next = old.next in omega (arith, few, next, finished.level));
    sized = finished.sized ∙ ap size_of (sym finished.level);
    right = λ p is stones. rules p is (stones ∙ finished.level);
    limited = finished.limited;
  }
