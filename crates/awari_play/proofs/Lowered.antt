-- Distances lowered to what the moves give: no distance is ever below the least, and where none falls more, each is the least.
use Rattle.std.proofs.Common.{◌≡◌, ℕ, ◌+◌, ◌<◌, ◌≤◌, ◌⊎◌, inl, inr, min, max, List, ℤ, pos, ◌-ℤ◌, ◌<ℤ◌, Option, Some, None, refl, sym, ap, ◌∙◌, subst, arith}
use Rattle.std.proofs.lemmas.Bool.{cases_lt}
use Rattle.std.proofs.lemmas.Int.{ints}
use Rattle.awari_board.specs.Rules.{IsMove, IsLegal, IsEnd, IsEnded, captured, next_board}
use Rattle.awari_table.specs.Certificate.{Table, plies, GainsIn, GainsNoSooner, MovesIn, MovesNoLater, IsRightBy}
use Rattle.awari_theory.specs.Older.{DistancesFall}
use Rattle.awari_table.proofs.CertificateLemmas.{plies_some, plies_cases}
use Rattle.awari_table.specs.Reached.{Reaches}
use Rattle.awari_table.specs.declared.rules.Reached.{Reached}
use Rattle.awari_play.specs.Lowering.{IsAbove, IsNearest, IsFarthest, IsByMoves, IsBelow, IsBelowTo, farther_by, IsNearerBy}
use Rattle.awari_theory.proofs.Sides.{value_cases}

either_max : (a b : ℕ) → (max a b ≡ a) ⊎ (max a b ≡ b)
either_max a b = elim (cases_lt a b) [ inl lt ↦ inr (omega (arith, lt)) | inr ge ↦ inl (omega (arith, ge)) ]

either_min : (a b : ℕ) → (min a b ≡ a) ⊎ (min a b ≡ b)
either_min a b = elim (cases_lt a b) [ inl lt ↦ inl (omega (arith, lt)) | inr ge ↦ inr (omega (arith, ge)) ]

-- a nearer board makes a move no longer
plies_fewer : (c d e : ℕ) → d ≤ e → plies c d ≤ plies c e
plies_fewer c d e less = elim (plies_cases c d) [
  | inl taken ↦ omega (arith, taken.1, plies_some c e)
  | inr quiet ↦ elim (plies_cases c e) [ inl other ↦ absurd (omega (arith, quiet.0, other.0)) | inr still ↦ omega (arith, quiet.1, still.1, less) ]
]

-- nor does a board that keeps its distance up to `near` make a move take fewer plies, up to one more
plies_held : (c d e near most : ℕ) → most ≤ near + 1 → min e near ≡ min d near → min (plies c d) most ≤ plies c e
plies_held c d e near most few same = elim (plies_cases c d) [
  | inl taken ↦ omega (arith, taken.1, plies_some c e)
  | inr quiet ↦ elim (plies_cases c e) [ inl other ↦ absurd (omega (arith, quiet.0, other.0)) | inr still ↦ omega (arith, quiet.1, still.1, same, few) ]
]

module _ (t : Table) (p : List ℕ) where
  -- a pit has one move
  pub one_move : (x c : ℕ) (q : List ℕ) (s : Reached) → Reaches t p x (Some s) → IsMove p x c q → (plies c (t.dist q) ≡ s.plies) × ((pos c -ℤ t.value q) ≡ (pos s.captured -ℤ s.value))
  one_move x c q s (r, move, v, d) other =
      let same : c ≡ s.captured = other.captures ∙ sym move.captures in
      let there : q ≡ r = other.leaves ∙ sym move.leaves in (
        ap (λ n. plies n (t.dist q)) same ∙ ap (λ b. plies s.captured (t.dist b)) there ∙ sym d,
        ap (λ n. pos n -ℤ t.value q) same ∙ ap (λ z. pos s.captured -ℤ z) (ap t.value there ∙ sym v),
      )

  -- ---- the most plies

  pub record IsFarthestOf (pit far : ℕ) : Type 0 where
    pub before : (x c : ℕ) (q : List ℕ) → x < pit → IsMove p x c q → plies c (t.dist q) ≤ far
    pub is : (far ≡ 0) ⊎ MovesIn t p far

  pub farthest-none : IsFarthestOf 0 0
  farthest-none = record { before = λ x c q below. absurd (omega (arith, below)); is = inl refl }

  pub farthest-more : (pit far : ℕ) (o : Option Reached) (k : ℕ) → IsFarthestOf pit far → Reaches t p pit o → k ≡ farther_by far o → IsFarthestOf (pit + 1) k
  farthest-more pit far None k h step is = record {
    before = λ x c q below move. elim (cases_lt x pit) [
      | inl lt ↦ omega (arith, h.before x c q lt move, is)
      | inr ge ↦ let here : x ≡ pit = omega (arith, ge, below) in absurd (step (subst (IsLegal p) here move.legal))
    ];
    is = subst (λ n. (n ≡ 0) ⊎ MovesIn t p n) (sym is) h.is;
  }
  farthest-more pit far (Some s) k h step is = record {
    before = λ x c q below move. elim (cases_lt x pit) [
      | inl lt ↦ omega (arith, h.before x c q lt move, is)
      | inr ge ↦
          let here : x ≡ pit = omega (arith, ge, below) in
          let one = one_move pit c q s step (subst (λ y. IsMove p y c q) here move) in
          omega (arith, one.0, is)
    ];
    is = elim (either_max far s.plies) [
      | inl old ↦ subst (λ n. (n ≡ 0) ⊎ MovesIn t p n) (sym (is ∙ old)) h.is
      | inr new ↦ let (q, move, v, d) = step in inr (pit, s.captured, q, move, sym d ∙ sym (is ∙ new))
    ];
  }

  pub farthest-all : (pit far : ℕ) → IsFarthestOf pit far → 6 ≤ pit → IsFarthest t p far
  farthest-all pit far h all = (λ x c q move. h.before x c q (let own = move.legal.own in omega (arith, own, all)) move, h.is)

  -- ---- the fewest plies

  pub record IsNearestOf (pit near : ℕ) : Type 0 where
    pub before : (x c : ℕ) (q : List ℕ) → x < pit → IsMove p x c q → (pos c -ℤ t.value q) ≡ t.value p → near ≤ plies c (t.dist q)
    pub is : (near ≡ t.dist p) ⊎ GainsIn t p near

  pub nearest-none : (dist : ℕ) → dist ≡ t.dist p → IsNearestOf 0 dist
  nearest-none dist own = record { before = λ x c q below. absurd (omega (arith, below)); is = inl own }

  pub nearest-more : (pit : ℕ) (value : ℤ) (near : ℕ) (o : Option Reached) (k : ℕ) → value ≡ t.value p → IsNearestOf pit near → Reaches t p pit o → IsNearerBy value near o k → IsNearestOf (pit + 1) k
  nearest-more pit value near None k own h step is = record {
    before = λ x c q below move gain. elim (cases_lt x pit) [
      | inl lt ↦ omega (arith, h.before x c q lt move gain, is)
      | inr ge ↦ let here : x ≡ pit = omega (arith, ge, below) in absurd (step (subst (IsLegal p) here move.legal))
    ];
    is = subst (λ n. (n ≡ t.dist p) ⊎ GainsIn t p n) (sym is) h.is;
  }
  nearest-more pit value near (Some s) k own h step (inl (gains, is)) = record {
    before = λ x c q below move gain. elim (cases_lt x pit) [
      | inl lt ↦ omega (arith, h.before x c q lt move gain, is)
      | inr ge ↦
          let here : x ≡ pit = omega (arith, ge, below) in
          let one = one_move pit c q s step (subst (λ y. IsMove p y c q) here move) in
          omega (arith, one.0, is)
    ];
    is = elim (either_min near s.plies) [
      | inl old ↦ subst (λ n. (n ≡ t.dist p) ⊎ GainsIn t p n) (sym (is ∙ old)) h.is
      | inr new ↦
          let (q, move, v, d) = step in
          inr (pit, s.captured, q, move, ap (λ z. pos s.captured -ℤ z) (sym v) ∙ gains ∙ own, sym d ∙ sym (is ∙ new))
    ];
  }
  nearest-more pit value near (Some s) k own h step (inr (other, is)) = record {
    before = λ x c q below move gain. elim (cases_lt x pit) [
      | inl lt ↦ omega (arith, h.before x c q lt move gain, is)
      | inr ge ↦
          let here : x ≡ pit = omega (arith, ge, below) in
          let one = one_move pit c q s step (subst (λ y. IsMove p y c q) here move) in
          absurd (other (sym one.1 ∙ gain ∙ sym own))
    ];
    is = subst (λ n. (n ≡ t.dist p) ⊎ GainsIn t p n) (sym is) h.is;
  }

  pub nearest-all : (pit near : ℕ) → IsNearestOf pit near → 6 ≤ pit → IsNearest t p near
  nearest-all pit near h all = (λ x c q move gain. h.before x c q (let own = move.legal.own in omega (arith, own, all)) move gain, h.is)

  -- ---- where nothing falls more

  -- distances as they are to be: those of moves
  pub record IsSharp : Type 0 where
    pub won : (IsEnded p → ⊥) → pos 0 <ℤ t.value p → GainsIn t p (t.dist p) × GainsNoSooner t p (t.dist p)
    pub lost : (IsEnded p → ⊥) → t.value p <ℤ pos 0 → MovesIn t p (t.dist p) × MovesNoLater t p (t.dist p)

  pub sharp : ((IsEnded p → ⊥) → (x : ℕ) × IsLegal p x) → IsAbove t p → IsBelow t p → IsSharp
  sharp legal above below = record {
    won = λ going up.
        let all = below.won up in
        let (j, (x, c, q, move, gain, takes), near) = above.won going up in
        let most = all x c q move gain in (
          (x, c, q, move, gain, omega (arith, takes, near, most)),
          λ y d r other gains. let first = all y d r other gains in omega (arith, first),
        );
    lost = λ going down.
        let later = above.lost down in (
          elim (below.lost down) [
            | inl none ↦
                let (x, own) = legal going in
                let move : IsMove p x (captured p x) (next_board p x) = record { legal = own; captures = refl; leaves = refl } in
                absurd (let first = later x _ _ move in omega (arith, first, none, plies_some (captured p x) (t.dist (next_board p x))))
            | inr (k, (x, c, q, move, takes), least) ↦ (x, c, q, move, (let last = later x c q move in omega (arith, takes, last, least)))
          ],
          later,
        );
  }

  -- a distance that is not above what the moves give
  pub below_by_moves : (k : ℕ) → IsByMoves t p k → t.dist p ≤ k → IsBelow t p
  below_by_moves k by less = record {
    won = λ up x c q move gain. let first = (by.won up).0 x c q move gain in omega (arith, first, less);
    lost = λ down. elim (by.lost down).1 [
      | inl none ↦ inl (omega (arith, none, less))
      | inr some ↦ inr (k, some, omega (arith, less))
    ];
  }

  pub below_any : (most : ℕ) → IsBelow t p → IsBelowTo most t p
  below_any most b = record {
    won = λ up x c q move gain. let first = b.won up x c q move gain in omega (arith, first);
    lost = λ down. elim (b.lost down) [
      | inl none ↦ inl (omega (arith, none))
      | inr (k, some, less) ↦ inr (k, some, omega (arith, less))
    ];
  }

  pub below_fewer : (most fewer : ℕ) → fewer ≤ most → IsBelowTo most t p → IsBelowTo fewer t p
  below_fewer most fewer few b = record {
    won = λ up x c q move gain. let first = b.won up x c q move gain in omega (arith, first, few);
    lost = λ down. elim (b.lost down) [
      | inl none ↦ inl (omega (arith, none, few))
      | inr (k, some, less) ↦ inr (k, some, omega (arith, less, few))
    ];
  }

  pub below_near : (most : ℕ) → t.dist p ≤ most → IsBelowTo most t p → IsBelow t p
  below_near most near b = record {
    won = λ up x c q move gain. let first = b.won up x c q move gain in omega (arith, first, near);
    lost = λ down. elim (b.lost down) [
      | inl none ↦ inl (omega (arith, none, near))
      | inr (k, some, less) ↦ inr (k, some, omega (arith, less, near))
    ];
  }

  -- a distance that is beyond the near ones doesn't fall below them
  pub stays_beyond : (near k : ℕ) → IsBelowTo near t p → near < t.dist p → IsByMoves t p k → k < t.dist p → near ≤ k
  stays_beyond near k b far by less = elim (value_cases (t.value p)) [
    | inl up ↦ elim (by.won up).1 [
      | inl same ↦ absurd (omega (arith, same, less))
      | inr (x, c, q, move, gain, takes) ↦ (let first = b.won up x c q move gain in omega (arith, first, takes, far))
    ]
    | inr (inl down) ↦ elim (b.lost down) [
      | inl none ↦ omega (arith, none, far)
      | inr (j, (x, c, q, move, takes), least) ↦ (let last = (by.lost down).0 x c q move in omega (arith, last, takes, least, far))
    ]
    | inr (inr even) ↦ absurd (let same = by.even even in omega (arith, same, less))
  ]

  -- ---- at first

  pub above_falling : IsRightBy DistancesFall t p → IsAbove t p
  above_falling r = record {
    even = r.distances.even;
    ends = λ stuck. let end : IsEnd p _ = record { stuck = stuck; gains = refl } in (r.ends _ end).2;
    won = λ going up.
        let (x, plan, legal) = r.has_plan going in
        let move : IsMove p x (captured p x) (next_board p x) = record { legal = legal; captures = refl; leaves = refl } in
        let some = r.distances.uneven going (λ even. omega (arith, ints, up, even)) in (
          plies (captured p x) (t.dist (next_board p x)),
          (x, captured p x, next_board p x, move, r.plan_gains x _ _ plan move, refl),
          elim (plies_cases (captured p x) (t.dist (next_board p x))) [
            | inl taken ↦ omega (arith, taken.1, some)
            | inr quiet ↦ elim (r.distances.winning up x _ _ plan move) [
              | inl capture ↦ absurd (omega (arith, capture, quiet.0))
              | inr near ↦ omega (arith, quiet.1, near)
            ]
          ],
        );
    lost = λ down x c q move.
        let some = r.distances.uneven (λ stuck. stuck x move.legal) (λ even. omega (arith, ints, down, even)) in
        elim (plies_cases c (t.dist q)) [
          | inl taken ↦ omega (arith, taken.1, some)
          | inr quiet ↦ let near = r.distances.losing down x q (subst (λ n. IsMove p x n q) quiet.0 move) in omega (arith, quiet.1, near)
        ];
  }

-- ---- two tables of the same values, of which one has smaller distances

module _ (t u : Table) (values : (q : List ℕ) → u.value q ≡ t.value q) (p : List ℕ) where
  gains_too : (c : ℕ) (q : List ℕ) → (pos c -ℤ t.value q) ≡ t.value p → (pos c -ℤ u.value q) ≡ u.value p
  gains_too c q gain = ap (λ z. pos c -ℤ z) (values q) ∙ gain ∙ sym (values p)

  gains_back : (c : ℕ) (q : List ℕ) → (pos c -ℤ u.value q) ≡ u.value p → (pos c -ℤ t.value q) ≡ t.value p
  gains_back c q gain = ap (λ z. pos c -ℤ z) (sym (values q)) ∙ gain ∙ values p

  won_too : pos 0 <ℤ u.value p → pos 0 <ℤ t.value p
  won_too up = subst (λ z. pos 0 <ℤ z) (values p) up

  lost_too : u.value p <ℤ pos 0 → t.value p <ℤ pos 0
  lost_too down = subst (λ z. z <ℤ pos 0) (values p) down

  -- a board whose own distance stays
  pub above_keeps : ((q : List ℕ) → u.dist q ≤ t.dist q) → u.dist p ≡ t.dist p → IsAbove t p → IsAbove u p
  above_keeps dists here a = record {
    even = λ e. here ∙ a.even (sym (values p) ∙ e);
    ends = λ stuck. here ∙ a.ends stuck;
    won = λ going up.
        let (k, (x, c, q, move, gain, takes), near) = a.won going (won_too up) in (
          plies c (u.dist q),
          (x, c, q, move, gains_too c q gain, refl),
          omega (arith, plies_fewer c (u.dist q) (t.dist q) (dists q), takes, near, here),
        );
    lost = λ down x c q move. let later = a.lost (lost_too down) x c q move in omega (arith, later, plies_fewer c (u.dist q) (t.dist q) (dists q), here);
  }

  -- a board whose distance falls to what its moves give
  pub above_lowers : ((q : List ℕ) → u.dist q ≤ t.dist q) → u.dist p < t.dist p → IsByMoves t p (u.dist p) → IsAbove t p → IsAbove u p
  above_lowers dists less by a = record {
    even = λ e. absurd (let same = by.even (sym (values p) ∙ e) in omega (arith, same, less));
    ends = λ stuck. absurd (let none = a.ends stuck in omega (arith, none, less));
    won = λ going up. elim (by.won (won_too up)).1 [
      | inl same ↦ absurd (omega (arith, same, less))
      | inr (x, c, q, move, gain, takes) ↦ (
        plies c (u.dist q),
        (x, c, q, move, gains_too c q gain, refl),
        omega (arith, plies_fewer c (u.dist q) (t.dist q) (dists q), takes),
      )
    ];
    lost = λ down x c q move. let later = (by.lost (lost_too down)).0 x c q move in omega (arith, later, plies_fewer c (u.dist q) (t.dist q) (dists q));
  }

  -- what the moves give stays as it is up to one ply more than the distances do that stay
  pub below_keeps : (near most : ℕ) → most ≤ near + 1 → ((q : List ℕ) → min (u.dist q) near ≡ min (t.dist q) near) → u.dist p ≤ t.dist p → IsBelowTo most t p → IsBelowTo most u p
  below_keeps near most few held less b = record {
    won = λ up x c q move gain.
        let first = b.won (won_too up) x c q move (gains_back c q gain) in
        omega (arith, first, less, plies_held c (t.dist q) (u.dist q) near most few (held q));
    lost = λ down. elim (b.lost (lost_too down)) [
      | inl none ↦ inl (omega (arith, none, less))
      | inr (k, (x, c, q, move, takes), least) ↦
          inr (plies c (u.dist q), (x, c, q, move, refl), omega (arith, least, takes, less, plies_held c (t.dist q) (u.dist q) near most few (held q)))
    ];
  }

  pub below_falls : (near : ℕ) → ((q : List ℕ) → min (u.dist q) near ≡ min (t.dist q) near) → IsByMoves t p (u.dist p) → IsBelowTo (near + 1) u p
  below_falls near held by = record {
    won = λ up x c q move gain.
        let first = (by.won (won_too up)).0 x c q move (gains_back c q gain) in
        omega (arith, first, plies_held c (t.dist q) (u.dist q) near (near + 1) (omega arith) (held q));
    lost = λ down. elim (by.lost (lost_too down)).1 [
      | inl none ↦ inl (omega (arith, none))
      | inr (x, c, q, move, takes) ↦
          inr (plies c (u.dist q), (x, c, q, move, refl), omega (arith, takes, plies_held c (t.dist q) (u.dist q) near (near + 1) (omega arith) (held q)))
    ];
  }

  -- the same distances
  pub sharp_alike : ((q : List ℕ) → u.dist q ≡ t.dist q) → IsSharp t p → IsSharp u p
  sharp_alike dists s = record {
    won = λ going up.
        let (some, all) = s.won going (won_too up) in
        let (x, c, q, move, gain, takes) = some in (
          (x, c, q, move, gains_too c q gain, ap (plies c) (dists q) ∙ takes ∙ sym (dists p)),
          λ y d r other gains. let first = all y d r other (gains_back d r gains) in omega (arith, first, dists p, ap (plies d) (dists r)),
        );
    lost = λ going down.
        let (some, all) = s.lost going (lost_too down) in
        let (x, c, q, move, takes) = some in (
          (x, c, q, move, ap (plies c) (dists q) ∙ takes ∙ sym (dists p)),
          λ y d r other. let last = all y d r other in omega (arith, last, dists p, ap (plies d) (dists r)),
        );
  }
