-- One more owner.
use Rattle.std.proofs.Common.{◌≡◌, ◌≢◌, ℕ, zero, suc, ◌+◌, ◌<◌, ◌≤◌, List, [], ◌∷◌, ◌++◌, length, Option, None, Some, refl, sym, ap, subst, ◌∙◌, inl, inr, arith, get_or, set, vec_len, length-append, length-set, take, drop}
use Rattle.std.proofs.lemmas.List.{take-append-le, take_all}
use Rattle.std.proofs.lemmas.Bool.{cases_eq, cases_lt}
use Rattle.std.proofs.lemmas.Bool.Decides.{nat_tests}
use Rattle.std.proofs.lemmas.List.{get_or-set_same, get_or-set_other, get_or_append_left, get_or_default}
use Rattle.std.proofs.Math.Seq.{get_or-append_seam}
use Rattle.std.proofs.lemmas.Option.{slice_get-get_or}
use Rattle.std.specs.List.{slice_get}
use Rattle.awari_lines.specs.Seats.{seat_of}
use Rattle.awari_lines.specs.declared.ends.Ends.{Ends}
use Rattle.awari_lines.specs.declared.ends.RingPair.{RingPair}
use Rattle.awari_lines.specs.Rings.{Connected, IsGrid, AllUnused, HasRoomOn, HaveRoom, UnusedOn, PairedOn, Paired, pair_of, owners_of}

slice_get-append : {X : Type 0} (xs ys : List X) (k : ℕ) → k < length xs → slice_get (xs ++ ys) k ≡ slice_get xs k
slice_get-append [] ys k h = absurd (omega arith)
slice_get-append (x ∷ xs) ys zero h = refl
slice_get-append (x ∷ xs) ys (suc k) h = slice_get-append xs ys k (omega arith)

slice_get-seam : {X : Type 0} (xs : List X) (y : X) (ys : List X) → slice_get (xs ++ y ∷ ys) (length xs) ≡ Some y
slice_get-seam [] y ys = refl
slice_get-seam (x ∷ xs) y ys = slice_get-seam xs y ys

seat_in : (i j n : ℕ) → i ≢ j → i < n → j < n → seat_of i j + 1 < n
seat_in i j n ne hi hj = grind (arith, nat_tests)

seat_last : (i n : ℕ) → i < n → seat_of i n + 1 ≡ n
seat_last i n h = grind (arith, nat_tests)

seat_first : (i n : ℕ) → i < n → seat_of n i ≡ i
seat_first i n h = grind (arith, nat_tests)

-- what a loop over `iter_mut` leaves, where no element is missing
refilled : {X : Type 0} (n : ℕ) (fs es : List X) → n ≡ length es → length fs ≡ length es → take n (fs ++ drop (length fs) es) ≡ fs
refilled n fs es e long = take-append-le n fs (drop (length fs) es) (omega arith) ∙ take_all n fs (omega arith)

module _ {T : Type 0} where
  -- the first n owners have a ring to the new one, for which it has the rings ms
  pub record ConnectedTo (room : ℕ) (es fs : List (Ends T)) (ms : List (RingPair T)) (n : ℕ) : Type 0 where
    pub long : length fs ≡ length es
    pub pairs : length ms ≡ n
    pub done : (k : ℕ) (d : Ends T) (m : RingPair T) → k < n → Connected room (get_or es k d) (get_or fs k d) (get_or ms k m)
    pub rest : (k : ℕ) (d : Ends T) → n ≤ k → get_or fs k d ≡ get_or es k d

  pub connected_more : (room : ℕ) (es fs : List (Ends T)) (ms : List (RingPair T)) (n : ℕ) (x a b : Ends T) (m : RingPair T) → ConnectedTo room es fs ms n → n < length es → a ≡ get_or fs n x → Connected room a b m → ConnectedTo room es (set fs n b) (ms ++ m ∷ []) (n + 1)
  connected_more room es fs ms n x a b m s h is w =
      let in_fs : n < length fs = (let p : length fs ≡ length es = s.long in omega arith) in
      let at_new : (d : RingPair T) → get_or (ms ++ m ∷ []) n d ≡ m = λ d. ap (λ k. get_or (ms ++ m ∷ []) k d) (sym s.pairs) ∙ get_or-append_seam ms m [] d in
      let was : (d : Ends T) → get_or es n d ≡ a = λ d. sym (s.rest n d (omega arith)) ∙ (get_or_default fs n d x in_fs ∙ sym is) in
      record {
        long = length-set fs n b ∙ s.long;
        pairs = length-append ms (m ∷ []) ∙ (let p : length ms ≡ n = s.pairs in omega arith);
        done = λ k d o l. elim (cases_eq k n) [
          | inl e ↦
              (let R : ℕ → Type 0 = λ q. Connected room (get_or es q d) (get_or (set fs n b) q d) (get_or (ms ++ m ∷ []) q o) in
              subst R (sym e)
              (subst (λ (u : Ends T). Connected room u (get_or (set fs n b) n d) (get_or (ms ++ m ∷ []) n o)) (sym (was d))
              (subst (λ (u : Ends T). Connected room a u (get_or (ms ++ m ∷ []) n o)) (sym (get_or-set_same fs n b d in_fs))
              (subst (λ (u : RingPair T). Connected room a b u) (sym (at_new o)) w))))
          | inr ne ↦
              (let low : k < n = omega (arith, ne) in
              subst (λ (u : Ends T). Connected room (get_or es k d) u (get_or (ms ++ m ∷ []) k o)) (sym (get_or-set_other fs n k b d ne))
              (subst (λ (u : RingPair T). Connected room (get_or es k d) (get_or fs k d) u) (sym (get_or_append_left ms (m ∷ []) o k (let p : length ms ≡ n = s.pairs in omega arith))) (s.done k d o low)))
        ];
        rest = λ k d l. get_or-set_other fs n k b d (λ e. absurd (omega (arith, e))) ∙ s.rest k d (omega arith);
      }

  pub connected_then : (room : ℕ) (es fs : List (Ends T)) (ms ms' : List (RingPair T)) (n : ℕ) (x a b : Ends T) (m : RingPair T) → ms' ≡ ms ++ m ∷ [] → ConnectedTo room es fs ms n → n < length es → a ≡ get_or fs n x → Connected room a b m → ConnectedTo room es (set fs n b) ms' (n + 1)
  connected_then room es fs ms ms' n x a b m e s h is w = subst (λ (l : List (RingPair T)). ConnectedTo room es (set fs n b) l (n + 1)) (sym e) (connected_more room es fs ms n x a b m s h is w)

  pair_kept : {room : ℕ} (a b : Ends T) (m : RingPair T) (j n : ℕ) → Connected room a b m → owners_of a ≡ n → a.owner ≢ j → a.owner < n → j < n → pair_of b j ≡ pair_of a j
  pair_kept a b m j n w long ne hi hj =
      ap (λ o. slice_get b.pairs.items (seat_of o j)) w.owner
      ∙ (ap (λ l. slice_get l (seat_of a.owner j)) w.added
      ∙ slice_get-append a.pairs.items (w.pair ∷ []) (seat_of a.owner j) (let p : seat_of a.owner j + 1 < n = seat_in a.owner j n ne hi hj in let q : length a.pairs.items + 1 ≡ n = ap (λ k. k + 1) (sym a.pairs.ok.0) ∙ long in omega arith))

  pair_new : {room : ℕ} (a b : Ends T) (m : RingPair T) (n : ℕ) (w : Connected room a b m) → owners_of a ≡ n → a.owner < n → pair_of b n ≡ Some w.pair
  pair_new a b m n w long hi =
      ap (λ o. slice_get b.pairs.items (seat_of o n)) w.owner
      ∙ (ap (λ l. slice_get l (seat_of a.owner n)) w.added
      ∙ (ap (λ k. slice_get (a.pairs.items ++ w.pair ∷ []) k) (let p : seat_of a.owner n + 1 ≡ n = seat_last a.owner n hi in let q : length a.pairs.items + 1 ≡ n = ap (λ k. k + 1) (sym a.pairs.ok.0) ∙ long in omega arith)
      ∙ slice_get-seam a.pairs.items w.pair []))

  -- what holds of each ring and of one more
  held_push : (P : Option (RingPair T) → Type 0) → P None → (ls : List (RingPair T)) (l : RingPair T) → ((k : ℕ) → P (slice_get ls k)) → P (Some l) → (k : ℕ) → P (slice_get (ls ++ l ∷ []) k)
  held_push P n [] l a h zero = h
  held_push P n [] l a h (suc k) = n
  held_push P n (m ∷ ms) l a h zero = a zero
  held_push P n (m ∷ ms) l a h (suc k) = held_push P n ms l (λ j. a (suc j)) h k

  held_each : (P : Option (RingPair T) → Type 0) → P None → (ls : List (RingPair T)) → ((k : ℕ) (m : RingPair T) → k < length ls → P (Some (get_or ls k m))) → (k : ℕ) → P (slice_get ls k)
  held_each P n [] a k = n
  held_each P n (m ∷ ms) a zero = a zero m (omega arith)
  held_each P n (m ∷ ms) a (suc k) = held_each P n ms (λ j o h. a (suc j) o (omega arith)) k

  module _ (room : ℕ) (es fs : List (Ends T)) (ms : List (RingPair T)) (new : Ends T) (g : IsGrid es) (s : ConnectedTo room es fs ms (length es)) (owner : new.owner ≡ length es) (pairs : new.pairs.items ≡ ms) where
    abbrev pub grown : List (Ends T)
    grown = fs ++ new ∷ []

    length-grown : length grown ≡ length es + 1
    length-grown = length-append fs (new ∷ []) ∙ (let p : length fs ≡ length es = s.long in omega arith)

    grown_old : (i : ℕ) (d : Ends T) → i < length es → get_or grown i d ≡ get_or fs i d
    grown_old i d h = get_or_append_left fs (new ∷ []) d i (let p : length fs ≡ length es = s.long in omega arith)

    grown_new : (d : Ends T) → get_or grown (length es) d ≡ new
    grown_new d = ap (λ k. get_or grown k d) (sym s.long) ∙ get_or-append_seam fs new [] d

    some_pair : (i : ℕ) → i < length es → (ls : List (RingPair T)) → length ls ≡ length es → RingPair T
    some_pair i h [] e = absurd (omega arith)
    some_pair i h (l ∷ ls) e = l

    old_owner : (i : ℕ) (d : Ends T) → i < length es → (get_or fs i d).owner ≡ i
    old_owner i d h = (s.done i d (some_pair i h ms s.pairs) h).owner ∙ g.owner i d h

    -- what holds at each place of the longer list
    at_each : (P : ℕ → Ends T → Type 0) → (d : Ends T) → ((i : ℕ) → i < length es → P i (get_or fs i d)) → P (length es) new → (i : ℕ) → i < length grown → P i (get_or grown i d)
    at_each P d old last i h =
        elim (cases_lt i (length es)) [
          | inl l ↦ subst (λ (u : Ends T). P i u) (sym (grown_old i d l)) (old i l)
          | inr l ↦
              (let e : i ≡ length es = omega (arith, length-grown) in
              let Q : ℕ → Type 0 = λ q. P q (get_or grown q d) in subst Q (sym e) (subst (λ (u : Ends T). P (length es) u) (sym (grown_new d)) last))
        ]

    owners_old : (i : ℕ) (d : Ends T) → i < length es → owners_of (get_or fs i d) ≡ length grown
    owners_old i d h =
        let w = s.done i d (some_pair i h ms s.pairs) h in
        let p : vec_len (get_or es i d).pairs + 1 ≡ length es = g.owners i d h in
        let q : length (get_or fs i d).pairs.items ≡ length (get_or es i d).pairs.items + 1 = ap length w.added ∙ length-append (get_or es i d).pairs.items (w.pair ∷ []) in
        let r : vec_len (get_or fs i d).pairs ≡ length (get_or fs i d).pairs.items = (get_or fs i d).pairs.ok.0 in
        let t : vec_len (get_or es i d).pairs ≡ length (get_or es i d).pairs.items = (get_or es i d).pairs.ok.0 in
        omega (arith, length-grown)

    paired_old : (i j : ℕ) (d : Ends T) → i < j → j < length es → Paired (get_or fs i d) (get_or fs j d)
    paired_old i j d l h =
        let li : i < length es = omega arith in
        let wi = s.done i d (some_pair i li ms s.pairs) li in
        let wj = s.done j d (some_pair j h ms s.pairs) h in
        let oi : (get_or es i d).owner ≡ i = g.owner i d li in
        let oj : (get_or es j d).owner ≡ j = g.owner j d h in
        let one : pair_of (get_or fs i d) (get_or es j d).owner ≡ pair_of (get_or es i d) (get_or es j d).owner = pair_kept (get_or es i d) (get_or fs i d) _ (get_or es j d).owner (length es) wi (g.owners i d li) (λ e. absurd (omega (arith, e))) (omega arith) (omega arith) in
        let two : pair_of (get_or fs j d) (get_or es i d).owner ≡ pair_of (get_or es j d) (get_or es i d).owner = pair_kept (get_or es j d) (get_or fs j d) _ (get_or es i d).owner (length es) wj (g.owners j d h) (λ e. absurd (omega (arith, e))) (omega arith) (omega arith) in
        subst (λ (n : ℕ). PairedOn (pair_of (get_or fs i d) n) (pair_of (get_or fs j d) (get_or fs i d).owner)) (sym wj.owner)
        (subst (λ (n : ℕ). PairedOn (pair_of (get_or fs i d) (get_or es j d).owner) (pair_of (get_or fs j d) n)) (sym wi.owner)
        (subst (λ (u : Option (RingPair T)). PairedOn u (pair_of (get_or fs j d) (get_or es i d).owner)) (sym one)
        (subst (λ (u : Option (RingPair T)). PairedOn (pair_of (get_or es i d) (get_or es j d).owner) u) (sym two) (g.paired i j d l h))))

    paired_new : (i : ℕ) (d : Ends T) → i < length es → Paired (get_or fs i d) new
    paired_new i d h =
        let m : RingPair T = some_pair i h ms s.pairs in
        let w = s.done i d m h in
        let oi : (get_or es i d).owner ≡ i = g.owner i d h in
        let one : pair_of (get_or fs i d) new.owner ≡ Some w.pair = ap (λ n. pair_of (get_or fs i d) n) owner ∙ pair_new (get_or es i d) (get_or fs i d) _ (length es) w (g.owners i d h) (omega arith) in
        let two : pair_of new (get_or fs i d).owner ≡ Some (get_or ms i m) =
        ap (λ n. slice_get new.pairs.items (seat_of new.owner n)) (old_owner i d h)
        ∙ (ap (λ n. slice_get new.pairs.items (seat_of n i)) owner
        ∙ (ap (λ k. slice_get new.pairs.items k) (seat_first i (length es) h)
        ∙ (ap (λ l. slice_get l i) pairs ∙ slice_get-get_or ms i m (let p : length ms ≡ length es = s.pairs in omega arith)))) in
        subst (λ (u : Option (RingPair T)). PairedOn u (pair_of new (get_or fs i d).owner)) (sym one) (subst (λ (u : Option (RingPair T)). PairedOn (Some w.pair) u) (sym two) w.paired)

    pub grid_more : IsGrid grown
    grid_more = record {
      owner = λ i d h. at_each (λ k u. u.owner ≡ k) d (λ k l. old_owner k d l) owner i h;
      owners = λ i d h. at_each (λ k u. owners_of u ≡ length grown) d (λ k l. owners_old k d l) (ap (λ k. k + 1) (new.pairs.ok.0 ∙ (ap length pairs ∙ s.pairs)) ∙ sym length-grown) i h;
      paired = λ i j d l h. (let li : i < length es = omega (arith, length-grown) in
          subst (λ (u : Ends T). Paired u (get_or grown j d)) (sym (grown_old i d li))
          (at_each (λ k u. (i < k) → Paired (get_or fs i d) u) d (λ k lk il. paired_old i k d il lk) (λ il. paired_new i d li) j h l));
    }

    module _ (P : Option (RingPair T) → Type 0) (none : P None) (mine : (a b : Ends T) (m : RingPair T) (w : Connected room a b m) → P (Some w.pair)) (theirs : (a b : Ends T) (m : RingPair T) → Connected room a b m → P (Some m)) where
      held_old : ((i : ℕ) (d : Ends T) → i < length es → (k : ℕ) → P (slice_get (get_or es i d).pairs.items k)) → (i : ℕ) (d : Ends T) → i < length es → (k : ℕ) → P (slice_get (get_or fs i d).pairs.items k)
      held_old u i d h k =
          let w = s.done i d (some_pair i h ms s.pairs) h in
          subst (λ (l : List (RingPair T)). P (slice_get l k)) (sym w.added) (held_push P none (get_or es i d).pairs.items w.pair (u i d h) (mine _ _ _ w) k)

      held_new : Ends T → (k : ℕ) → P (slice_get new.pairs.items k)
      held_new d = subst (λ (l : List (RingPair T)). (k : ℕ) → P (slice_get l k)) (sym pairs) (held_each P none ms (λ k m h. theirs _ _ _ (s.done k d m (let p : length ms ≡ length es = s.pairs in omega arith))))

      pub held_more : ((i : ℕ) (d : Ends T) → i < length es → (k : ℕ) → P (slice_get (get_or es i d).pairs.items k)) → (i : ℕ) (d : Ends T) → i < length grown → (k : ℕ) → P (slice_get (get_or grown i d).pairs.items k)
      held_more u i d h = at_each (λ k e. (q : ℕ) → P (slice_get e.pairs.items q)) d (λ k l. held_old u k d l) (held_new d) i h

    pub unused_more : AllUnused es → AllUnused grown
    unused_more = held_more UnusedOn tt (λ a b m w. w.unused) (λ a b m w. w.unused_there)

    pub room_more : HaveRoom room es → HaveRoom room grown
    room_more = held_more (HasRoomOn room) tt (λ a b m w. w.room) (λ a b m w. w.room_there)

  pub grid_then : (room : ℕ) (es fs gs : List (Ends T)) (ms : List (RingPair T)) (n : ℕ) (new : Ends T) → gs ≡ fs ++ new ∷ [] → n ≡ length es → IsGrid es × AllUnused es × HaveRoom room es → ConnectedTo room es fs ms n → new.owner ≡ length es → new.pairs.items ≡ ms → IsGrid gs × AllUnused gs × HaveRoom room gs
  grid_then room es fs gs ms n new e long (grid, unused, held) s owner pairs =
      let t : ConnectedTo room es fs ms (length es) = subst (λ (k : ℕ). ConnectedTo room es fs ms k) long s in
      subst (λ (l : List (Ends T)). IsGrid l × AllUnused l × HaveRoom room l) (sym e) (grid_more room es fs ms new grid t owner pairs, unused_more room es fs ms new grid t owner pairs unused, room_more room es fs ms new grid t owner pairs held)

  pub grid_after : (room : ℕ) (es fs gs : List (Ends T)) (ms : List (RingPair T)) (n len : ℕ) (new : Ends T) → gs ≡ take len (fs ++ drop (length fs) es) ++ new ∷ [] → len ≡ length es → n ≡ length es → IsGrid es × AllUnused es × HaveRoom room es → ConnectedTo room es fs ms n → new.owner ≡ length es → new.pairs.items ≡ ms → IsGrid gs × AllUnused gs × HaveRoom room gs
  grid_after room es fs gs ms n len new e whole long g s owner pairs = grid_then room es fs gs ms n new (e ∙ ap (λ l. l ++ new ∷ []) (refilled len fs es whole s.long)) long g s owner pairs
