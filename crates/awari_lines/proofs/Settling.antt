-- How far a settling has come.
use Rattle.std.proofs.Common.{◌≡◌, ℕ, ◌+◌, ◌<◌, ◌≤◌, List, [], ◌∷◌, ◌++◌, length, Option, refl, sym, subst, ◌∙◌, inl, inr, arith, get_or, IsTrue, ◌↔◌, Bool, ◌⊎◌}
use Rattle.std.proofs.lemmas.Bool.{cases_eq, cases_lt}
use Rattle.awari_lines.specs.declared.ends.Ends.{Ends}
use Rattle.awari_lines.specs.declared.ends.RingPair.{RingPair}
use Rattle.awari_lines.specs.Rings.{AreExact, LookedAt, NoneWait, NothingWaits, IsGrid, SameHistory, sent_on, received_on, waiting_on, pair_of}
use Rattle.awari_lines.proofs.Grids.{history_then}

-- the pairs that were looked at
abbrev pub IsDone : ℕ → ℕ → ℕ → ℕ → Type 0
IsDone j i x y = (y < j) ⊎ ((y ≡ j) × (x < i))

module _ {T : Type 0} where
  abbrev pub ExactOn : Option (RingPair T) → Option (RingPair T) → Type 0
  ExactOn l m = (received_on l ++ waiting_on l ≡ sent_on m) × (received_on m ++ waiting_on m ≡ sent_on l)

  abbrev pub QuietOn : Option (RingPair T) → Option (RingPair T) → Type 0
  QuietOn l m = (waiting_on l ≡ []) × (waiting_on m ≡ [])

  -- R holds of the rings between the owners x and y
  abbrev pub Between : (Option (RingPair T) → Option (RingPair T) → Type 0) → List (Ends T) → ℕ → ℕ → Ends T → Type 0
  Between R es x y d = R (pair_of (get_or es x d) y) (pair_of (get_or es y d) x)

  pub record SettledTo (es fs : List (Ends T)) (empty : Bool) (j i : ℕ) : Type 0 where
    pub grid : IsGrid fs
    pub many : length fs ≡ length es
    pub same : (i : ℕ) (d : Ends T) → i < length es → SameHistory (get_or es i d) (get_or fs i d)
    pub exact : (x y : ℕ) (d : Ends T) → x < y → y < length es → IsDone j i x y → Between ExactOn fs x y d
    pub flag : IsTrue empty ↔ ((x y : ℕ) (d : Ends T) → x < y → y < length es → IsDone j i x y → Between QuietOn fs x y d)

  some_ends : (es : List (Ends T)) → 0 < length es → Ends T
  some_ends [] h = absurd (omega arith)
  some_ends (e ∷ es) h = e

  -- the row of j is done
  pub settled_row : (es fs : List (Ends T)) (empty : Bool) (j i : ℕ) → i ≡ j → SettledTo es fs empty j i → SettledTo es fs empty (j + 1) 0
  settled_row es fs empty j i e s =
      let back : (x y : ℕ) → x < y → IsDone (j + 1) 0 x y → IsDone j i x y = λ x y l w. elim w [
        | inl p ↦ elim (cases_eq y j) [ inl q ↦ inr (q, (let q' : y ≡ j = q in let e' : i ≡ j = e in omega arith)) | inr n ↦ inl (omega (arith, n)) ]
        | inr p ↦ absurd (let q : x < 0 = p.1 in omega arith)
      ] in
      let on : (x y : ℕ) → IsDone j i x y → IsDone (j + 1) 0 x y = λ x y w. elim w [ inl p ↦ inl (omega arith) | inr p ↦ inl (let q : y ≡ j = p.0 in omega arith) ] in
      record {
        grid = s.grid;
        many = s.many;
        same = s.same;
        exact = λ x y d l h w. s.exact x y d l h (back x y l w);
        flag = ((λ t x y d l h w. s.flag.0 t x y d l h (back x y l w)), (λ a. s.flag.1 (λ x y d l h w. a x y d l h (on x y w))));
      }

  module _ (es fs hs : List (Ends T)) (empty quiet empty' : Bool) (j i : ℕ) (lt : i < j) (fits : j < length es) (s : SettledTo es fs empty j i) (long : length hs ≡ length fs) (w : LookedAt fs hs i j)
      (flag : (d : Ends T) → IsTrue quiet ↔ NothingWaits (get_or hs i d) (get_or hs j d)) (both : IsTrue empty' ↔ (IsTrue empty × IsTrue quiet)) where
    owner_i : (d : Ends T) → (get_or hs i d).owner ≡ i
    owner_i d = w.grid.owner i d (let p : length hs ≡ length fs = long in let q : length fs ≡ length es = s.many in omega arith)

    owner_j : (d : Ends T) → (get_or hs j d).owner ≡ j
    owner_j d = w.grid.owner j d (let p : length hs ≡ length fs = long in let q : length fs ≡ length es = s.many in omega arith)

    here_exact : (d : Ends T) → Between ExactOn hs i j d
    here_exact d =
        subst (λ (m : ℕ). ExactOn (pair_of (get_or hs i d) m) (pair_of (get_or hs j d) i)) (owner_j d)
        (subst (λ (m : ℕ). ExactOn (pair_of (get_or hs i d) (get_or hs j d).owner) (pair_of (get_or hs j d) m)) (owner_i d) (w.exact d))

    -- nothing waits between i and j, by the numbers
    quiet_on : (d : Ends T) → NothingWaits (get_or hs i d) (get_or hs j d) → Between QuietOn hs i j d
    quiet_on d h =
        subst (λ (m : ℕ). QuietOn (pair_of (get_or hs i d) m) (pair_of (get_or hs j d) i)) (owner_j d)
        (subst (λ (m : ℕ). QuietOn (pair_of (get_or hs i d) (get_or hs j d).owner) (pair_of (get_or hs j d) m)) (owner_i d) h)

    quiet_back : (d : Ends T) → Between QuietOn hs i j d → NothingWaits (get_or hs i d) (get_or hs j d)
    quiet_back d h =
        subst (λ (m : ℕ). QuietOn (pair_of (get_or hs i d) (get_or hs j d).owner) (pair_of (get_or hs j d) m)) (sym (owner_i d))
        (subst (λ (m : ℕ). QuietOn (pair_of (get_or hs i d) m) (pair_of (get_or hs j d) i)) (sym (owner_j d)) h)

    -- the rings of a pair that was looked at before
    stays : (R : Option (RingPair T) → Option (RingPair T) → Type 0) (x y : ℕ) (d : Ends T) → x < y → y < length es → IsDone j i x y → Between R fs x y d → Between R hs x y d
    stays R x y d l h done r =
        let q : length fs ≡ length es = s.many in
        let apart : ¬ ((x ≡ i) × (y ≡ j)) = λ e. elim done [ inl p ↦ absurd (let a : y ≡ j = e.1 in omega arith) | inr p ↦ absurd (let a : x ≡ i = e.0 in let b : x < i = p.1 in omega arith) ] in
        let across : ¬ ((x ≡ j) × (y ≡ i)) = λ e. absurd (let a : x ≡ j = e.0 in let b : y ≡ i = e.1 in omega arith) in
        let one : pair_of (get_or hs x d) y ≡ pair_of (get_or fs x d) y = w.others x y d (omega arith) (λ e. absurd (omega (arith, e))) apart across in
        let two : pair_of (get_or hs y d) x ≡ pair_of (get_or fs y d) x = w.others y x d (omega arith) (λ e. absurd (omega (arith, e))) (λ e. across (e.1, e.0)) (λ e. apart (e.1, e.0)) in
        subst (λ (u : Option (RingPair T)). R u (pair_of (get_or hs y d) x)) (sym one) (subst (λ (u : Option (RingPair T)). R (pair_of (get_or fs x d) y) u) (sym two) r)

    stayed : (R : Option (RingPair T) → Option (RingPair T) → Type 0) (x y : ℕ) (d : Ends T) → x < y → y < length es → IsDone j i x y → Between R hs x y d → Between R fs x y d
    stayed R x y d l h done r =
        let q : length fs ≡ length es = s.many in
        let apart : ¬ ((x ≡ i) × (y ≡ j)) = λ e. elim done [ inl p ↦ absurd (let a : y ≡ j = e.1 in omega arith) | inr p ↦ absurd (let a : x ≡ i = e.0 in let b : x < i = p.1 in omega arith) ] in
        let across : ¬ ((x ≡ j) × (y ≡ i)) = λ e. absurd (let a : x ≡ j = e.0 in let b : y ≡ i = e.1 in omega arith) in
        let one : pair_of (get_or hs x d) y ≡ pair_of (get_or fs x d) y = w.others x y d (omega arith) (λ e. absurd (omega (arith, e))) apart across in
        let two : pair_of (get_or hs y d) x ≡ pair_of (get_or fs y d) x = w.others y x d (omega arith) (λ e. absurd (omega (arith, e))) (λ e. across (e.1, e.0)) (λ e. apart (e.1, e.0)) in
        subst (λ (u : Option (RingPair T)). R u (pair_of (get_or fs y d) x)) one (subst (λ (u : Option (RingPair T)). R (pair_of (get_or hs x d) y) u) two r)

    -- a pair is done now where it is the last one or was done before
    done_cases : (x y : ℕ) → IsDone j (i + 1) x y → ((x ≡ i) × (y ≡ j)) ⊎ IsDone j i x y
    done_cases x y done = elim done [
      | inl p ↦ inr (inl p)
      | inr p ↦ elim (cases_eq x i) [ inl e ↦ inl (e, p.0) | inr n ↦ inr (inr (p.0, (let a : x < i + 1 = p.1 in omega (arith, n)))) ]
    ]

    done_more : (x y : ℕ) → IsDone j i x y → IsDone j (i + 1) x y
    done_more x y done = elim done [ inl p ↦ inl p | inr p ↦ inr (p.0, (let a : x < i = p.1 in omega arith)) ]

    at_last : (R : Option (RingPair T) → Option (RingPair T) → Type 0) (x y : ℕ) (d : Ends T) → x ≡ i → y ≡ j → Between R hs i j d → Between R hs x y d
    at_last R x y d e f r = subst (λ (a : ℕ). Between R hs a y d) (sym e) (subst (λ (b : ℕ). Between R hs i b d) (sym f) r)

    pub settled_more : SettledTo es hs empty' j (i + 1)
    settled_more = record {
      grid = w.grid;
      many = long ∙ s.many;
      same = λ k d h. history_then (get_or es k d) (get_or fs k d) (get_or hs k d) (s.same k d h) (w.same k d (let q : length fs ≡ length es = s.many in omega arith));
      exact = λ x y d l h done. elim (done_cases x y done) [
        | inl e ↦ at_last ExactOn x y d e.0 e.1 (here_exact d)
        | inr before ↦ stays ExactOn x y d l h before (s.exact x y d l h before)
      ];
      flag = (
        (λ t x y d l h done. elim (done_cases x y done) [
          | inl e ↦ at_last QuietOn x y d e.0 e.1 (quiet_on d ((flag d).0 (both.0 t).1))
          | inr before ↦ stays QuietOn x y d l h before (s.flag.0 (both.0 t).0 x y d l h before)
        ]),
        (λ all. both.1 (
          s.flag.1 (λ x y d l h before. stayed QuietOn x y d l h before (all x y d l h (done_more x y before))),
          (let d : Ends T = some_ends es (let q : j < length es = fits in omega arith) in (flag d).1 (quiet_back d (all i j d lt fits (inr (refl, omega arith))))),
        )),
      );
    }

  -- all rows are done
  pub settled_exact : (es fs : List (Ends T)) (empty : Bool) (j : ℕ) → length es ≤ j → SettledTo es fs empty j 0 → AreExact fs
  settled_exact es fs empty j long s x y d hx hy n =
      let many = s.many in
      elim (cases_lt x y) [
        | inl l ↦ (s.exact x y d l (omega (arith, hy, many)) (inl (omega arith))).0
        | inr l ↦ (s.exact y x d (omega (arith, n)) (omega (arith, hx, many)) (inl (omega arith))).1
      ]

  pub settled_flag : (es fs : List (Ends T)) (empty : Bool) (j : ℕ) → length es ≤ j → SettledTo es fs empty j 0 → IsTrue empty ↔ NoneWait fs
  settled_flag es fs empty j long s =
      let many = s.many in (
        (λ t x y d hx hy n. elim (cases_lt x y) [
          | inl l ↦ (s.flag.0 t x y d l (omega (arith, hy, many)) (inl (omega arith))).0
          | inr l ↦ (s.flag.0 t y x d (omega (arith, n)) (omega (arith, hx, many)) (inl (omega arith))).1
        ]),
        (λ all. s.flag.1 (λ x y d l h w. (all x y d (omega (arith, h, many)) (omega (arith, h, many)) (λ e. absurd (omega (arith, e))), all y x d (omega (arith, h, many)) (omega (arith, h, many)) (λ e. absurd (omega (arith, e)))))),
      )
