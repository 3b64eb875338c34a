-- Grids: what a look at two rings keeps, and what one more owner keeps.
use Rattle.std.proofs.Common.{◌≡◌, ◌≢◌, ℕ, zero, suc, ◌+◌, ◌<◌, List, [], ◌∷◌, ◌++◌, length, Option, Some, None, refl, sym, ap, subst, ◌∙◌, inl, inr, arith, set, get_or, take, drop, length-set}
use Rattle.std.proofs.lemmas.List.{get_or-set_same, get_or-set_other, get_or_default, get_or-take, get_or-drop}
use Rattle.std.proofs.Common.{add-zero, IsTrue, ◌↔◌, Bool}
use Rattle.std.proofs.lemmas.Bool.{cases_eq}
use Rattle.std.specs.List.{slice_get}
use Rattle.awari_lines.specs.Seats.{seat_of}
use Rattle.awari_lines.specs.declared.ends.Ends.{Ends}
use Rattle.awari_lines.specs.declared.ends.RingPair.{RingPair}
use Rattle.awari_lines.specs.Rings.{SamePairs, SameRings, PairedOn, Paired, Looked, LookedAt, IsExact, NothingWaits, IsGrid, SameHistory, sent_to, received_from, sent_on, received_on, pair_of}

-- a write in each part of a list
split_one : {X : Type 0} (xs : List X) (j : ℕ) (b : X) → j < length xs → take j xs ++ set (drop j xs) 0 b ≡ set xs j b
split_one [] j b h = absurd (omega arith)
split_one (x ∷ xs) zero b h = refl
split_one (x ∷ xs) (suc j) b h = ap (λ r. x ∷ r) (split_one xs j b (omega arith))

pub split_sets : {X : Type 0} (xs : List X) (i j : ℕ) (a b : X) → i < j → j < length xs → set (take j xs) i a ++ set (drop j xs) 0 b ≡ set (set xs i a) j b
split_sets [] i j a b l h = absurd (omega arith)
split_sets (x ∷ xs) i zero a b l h = absurd (omega arith)
split_sets (x ∷ xs) zero (suc j) a b l h = ap (λ r. a ∷ r) (split_one xs j b (omega arith))
split_sets (x ∷ xs) (suc i) (suc j) a b l h = ap (λ r. x ∷ r) (split_sets xs i j a b (omega arith) (omega arith))

module _ {T : Type 0} where
  -- the same ends of the same two rings are paired as they were
  pub paired_kept : (l m l' m' : Option (RingPair T)) → SameRings l l' → SameRings m m' → PairedOn l m → PairedOn l' m'
  paired_kept None m l' m' p q h = absurd h
  paired_kept (Some l) None l' m' p q h = absurd h
  paired_kept (Some l) (Some m) None m' p q h = absurd p
  paired_kept (Some l) (Some m) (Some l') None p q h = absurd q
  paired_kept (Some l) (Some m) (Some l') (Some m') p q h = (
    (q.1.0.0 ∙ (h.0.0 ∙ sym p.0.0.0), q.1.0.1 ∙ (h.0.1 ∙ sym p.0.0.1), q.1.0.2 ∙ (h.0.2 ∙ sym p.0.0.2), q.1.0.3 ∙ (h.0.3 ∙ sym p.0.0.3)),
    (p.1.0.0 ∙ (h.1.0 ∙ sym q.0.0.0), p.1.0.1 ∙ (h.1.1 ∙ sym q.0.0.1), p.1.0.2 ∙ (h.1.2 ∙ sym q.0.0.2), p.1.0.3 ∙ (h.1.3 ∙ sym q.0.0.3)),
  )

  pub same_rings : (l : Option (RingPair T)) → SameRings l l
  same_rings None = tt
  same_rings (Some l) = (((refl, refl, refl, refl), refl), ((refl, refl, refl, refl), refl))

  pub same_pairs : (a : Ends T) → SamePairs a a
  same_pairs a = record { owner = refl; owners = refl; rings = λ k. same_rings (slice_get a.pairs.items k) }

  pub same_history : (a : Ends T) → SameHistory a a
  same_history a = record { pairs = same_pairs a; sent = λ j n. refl; received = λ j n. refl }

  pub pair_kept : (a b a' b' : Ends T) → SamePairs a a' → SamePairs b b' → Paired a b → Paired a' b'
  pair_kept a b a' b' s t h =
      let la : (k : ℕ) → slice_get a'.pairs.items (seat_of a'.owner k) ≡ slice_get a'.pairs.items (seat_of a.owner k) = λ k. ap (λ o. slice_get a'.pairs.items (seat_of o k)) s.owner in
      let P : Ends T → Ends T → ℕ → ℕ → Type 0 = λ x y i j. PairedOn (slice_get x.pairs.items (seat_of i j)) (slice_get y.pairs.items (seat_of j i)) in
      let kept : P a' b' a.owner b.owner = paired_kept _ _ _ _ (s.rings (seat_of a.owner b.owner)) (t.rings (seat_of b.owner a.owner)) h in
      subst (λ (i : ℕ). P a' b' i b'.owner) (sym s.owner) (subst (λ (j : ℕ). P a' b' a.owner j) (sym t.owner) kept)

  -- the same ends at each place make a grid of a grid
  pub grid_kept : (es fs : List (Ends T)) → length fs ≡ length es → ((x : ℕ) (d : Ends T) → x < length es → SamePairs (get_or es x d) (get_or fs x d)) → IsGrid es → IsGrid fs
  grid_kept es fs n same g = record {
    owner = λ i d h. (let l : i < length es = omega (arith, n) in (same i d l).owner ∙ g.owner i d l);
    owners = λ i d h. (let l : i < length es = omega (arith, n) in ap (λ k. k + 1) (same i d l).owners ∙ (g.owners i d l ∙ sym n));
    paired = λ i j d l h. (let lj : j < length es = omega (arith, n) in let li : i < length es = omega arith in pair_kept (get_or es i d) (get_or es j d) (get_or fs i d) (get_or fs j d) (same i d li) (same j d lj) (g.paired i j d l lj));
  }

  pub history_from_look : (a b : Ends T) (j : ℕ) → Looked a b j → SameHistory a b
  history_from_look a b j w = record {
    pairs = w.pairs;
    sent = λ k n. elim (cases_eq k j) [
      | inl e ↦ (let P : ℕ → Type 0 = λ q. sent_to b q ≡ sent_to a q in subst P (sym e) w.sent)
      | inr m ↦ ap sent_on (w.others k m n)
    ];
    received = λ k n. elim (cases_eq k j) [
      | inl e ↦ (let P : ℕ → Type 0 = λ q. received_from b q ≡ received_from a q in subst P (sym e) w.received)
      | inr m ↦ ap received_on (w.others k m n)
    ];
  }

  -- two writes
  module _ (es : List (Ends T)) (i j : ℕ) (a b a' b' : Ends T) (lt : i < j) (fits : j < length es) (at_i : (d : Ends T) → get_or es i d ≡ a) (at_j : (d : Ends T) → get_or es j d ≡ b) where
    abbrev pub written : List (Ends T)
    written = set (set es i a') j b'

    pub length-written : length written ≡ length es
    length-written = length-set (set es i a') j b' ∙ length-set es i a'

    pub written_i : (d : Ends T) → get_or written i d ≡ a'
    written_i d = get_or-set_other (set es i a') j i b' d (λ e. absurd (omega (arith, e))) ∙ get_or-set_same es i a' d (omega arith)

    pub written_j : (d : Ends T) → get_or written j d ≡ b'
    written_j d = get_or-set_same (set es i a') j b' d (omega (arith, length-set es i a'))

    pub written_else : (x : ℕ) (d : Ends T) → x ≢ i → x ≢ j → get_or written x d ≡ get_or es x d
    written_else x d m n = get_or-set_other (set es i a') j x b' d n ∙ get_or-set_other es i x a' d m

    -- a relation that holds of what was written and of each value with itself
    pub written_each : (R : Ends T → Ends T → Type 0) → R a a' → R b b' → ((e : Ends T) → R e e) → (x : ℕ) (d : Ends T) → R (get_or es x d) (get_or written x d)
    written_each R ra rb same x d =
        elim (cases_eq x i) [
          | inl e ↦ (let P : ℕ → Type 0 = λ y. R (get_or es y d) (get_or written y d) in subst P (sym e) (subst (λ (u : Ends T). R u (get_or written i d)) (sym (at_i d)) (subst (λ (u : Ends T). R a u) (sym (written_i d)) ra)))
          | inr m ↦
              elim (cases_eq x j) [
                | inl e ↦ (let P : ℕ → Type 0 = λ y. R (get_or es y d) (get_or written y d) in subst P (sym e) (subst (λ (u : Ends T). R u (get_or written j d)) (sym (at_j d)) (subst (λ (u : Ends T). R b u) (sym (written_j d)) rb)))
                | inr n ↦ subst (λ (u : Ends T). R (get_or es x d) u) (sym (written_else x d m n)) (same (get_or es x d))
              ]
        ]

    pub looked_at : IsGrid es → Looked a a' j → Looked b b' i → IsExact a' b' → LookedAt es written i j
    looked_at g la lb ex = record {
      grid = grid_kept es written length-written (λ x d h. written_each SamePairs la.pairs lb.pairs same_pairs x d) g;
      same = λ k d h. written_each SameHistory (history_from_look a a' j la) (history_from_look b b' i lb) same_history k d;
      others = λ x y d h n m k. elim (cases_eq x i) [
        | inl e ↦
            (let P : ℕ → Type 0 = λ z. pair_of (get_or written z d) y ≡ pair_of (get_or es z d) y in
            subst P (sym e) (ap (λ u. pair_of u y) (written_i d) ∙ (la.others y (λ q. m (e, q)) (λ q. n (e ∙ (sym (g.owner i d (omega arith)) ∙ (ap (λ (u : Ends T). u.owner) (at_i d) ∙ sym q)))) ∙ ap (λ u. pair_of u y) (sym (at_i d)))))
        | inr p ↦
            elim (cases_eq x j) [
              | inl e ↦
                  (let P : ℕ → Type 0 = λ z. pair_of (get_or written z d) y ≡ pair_of (get_or es z d) y in
                  subst P (sym e) (ap (λ u. pair_of u y) (written_j d) ∙ (lb.others y (λ q. k (e, q)) (λ q. n (e ∙ (sym (g.owner j d fits) ∙ (ap (λ (u : Ends T). u.owner) (at_j d) ∙ sym q)))) ∙ ap (λ u. pair_of u y) (sym (at_j d)))))
              | inr q ↦ ap (λ u. pair_of u y) (written_else x d p q)
            ]
      ];
      exact = λ d. subst (λ (u : Ends T). IsExact u (get_or written j d)) (sym (written_i d)) (subst (λ (u : Ends T). IsExact a' u) (sym (written_j d)) ex);
    }

  -- the same of a list that is cut in two
  module _ (es front back : List (Ends T)) (i j : ℕ) (x y : Ends T) (f : front ≡ take j es) (k : back ≡ drop j es) (lt : i < j) (fits : j < length es) (g : IsGrid es) where
    front_at : (d : Ends T) → get_or es i d ≡ get_or front i x
    front_at d = get_or_default es i d x (omega arith) ∙ sym (ap (λ l. get_or l i x) f ∙ get_or-take j es i x lt)

    back_at : (d : Ends T) → get_or es j d ≡ get_or back 0 y
    back_at d = get_or_default es j d y fits ∙ sym (ap (λ l. get_or l 0 y) k ∙ (get_or-drop j es 0 y ∙ ap (λ n. get_or es n y) (add-zero j)))

    front_owner : (get_or front i x).owner ≡ i
    front_owner = ap (λ (u : Ends T). u.owner) (sym (front_at x)) ∙ g.owner i x (omega arith)

    back_owner : (get_or back 0 y).owner ≡ j
    back_owner = ap (λ (u : Ends T). u.owner) (sym (back_at y)) ∙ g.owner j y fits

    pub parts_paired : Paired (get_or front i x) (get_or back 0 y)
    parts_paired = subst (λ (u : Ends T). Paired u (get_or back 0 y)) (front_at x) (subst (λ (u : Ends T). Paired (get_or es i x) u) (back_at x) (g.paired i j x lt fits))

    parts_written : (a b : Ends T) → set front i a ++ set back 0 b ≡ set (set es i a) j b
    parts_written a b = ap (λ l. set l i a ++ set back 0 b) f ∙ (ap (λ l. set (take j es) i a ++ set l 0 b) k ∙ split_sets es i j a b lt fits)

    pub parts_looked : (a b : Ends T) → Looked (get_or front i x) a (get_or back 0 y).owner → Looked (get_or back 0 y) b (get_or front i x).owner → IsExact a b → LookedAt es (set front i a ++ set back 0 b) i j
    parts_looked a b la lb ex =
        let la' : Looked (get_or front i x) a j = subst (λ (n : ℕ). Looked (get_or front i x) a n) back_owner la in
        let lb' : Looked (get_or back 0 y) b i = subst (λ (n : ℕ). Looked (get_or back 0 y) b n) front_owner lb in
        subst (λ (l : List (Ends T)). LookedAt es l i j) (sym (parts_written a b)) (looked_at es i j (get_or front i x) (get_or back 0 y) a b lt fits front_at back_at g la' lb' ex)

    pub parts_flag : (r : Bool) (a b : Ends T) → (IsTrue r ↔ NothingWaits a b) → (d : Ends T) → IsTrue r ↔ NothingWaits (get_or (set front i a ++ set back 0 b) i d) (get_or (set front i a ++ set back 0 b) j d)
    parts_flag r a b h d =
        let at_i : get_or (set front i a ++ set back 0 b) i d ≡ a = ap (λ l. get_or l i d) (parts_written a b) ∙ written_i es i j (get_or front i x) (get_or back 0 y) a b lt fits front_at back_at d in
        let at_j : get_or (set front i a ++ set back 0 b) j d ≡ b = ap (λ l. get_or l j d) (parts_written a b) ∙ written_j es i j (get_or front i x) (get_or back 0 y) a b lt fits front_at back_at d in
        subst (λ (u : Ends T). IsTrue r ↔ NothingWaits u (get_or (set front i a ++ set back 0 b) j d)) (sym at_i) (subst (λ (u : Ends T). IsTrue r ↔ NothingWaits a u) (sym at_j) h)

  pub rings_then : (l m n : Option (RingPair T)) → SameRings l m → SameRings m n → SameRings l n
  rings_then None None None p q = tt
  rings_then None None (Some n) p q = q
  rings_then None (Some m) n p q = absurd p
  rings_then (Some l) None n p q = absurd p
  rings_then (Some l) (Some m) None p q = q
  rings_then (Some l) (Some m) (Some n) p q = (
    ((q.0.0.0 ∙ p.0.0.0, q.0.0.1 ∙ p.0.0.1, q.0.0.2 ∙ p.0.0.2, q.0.0.3 ∙ p.0.0.3), q.0.1 ∙ p.0.1),
    ((q.1.0.0 ∙ p.1.0.0, q.1.0.1 ∙ p.1.0.1, q.1.0.2 ∙ p.1.0.2, q.1.0.3 ∙ p.1.0.3), q.1.1 ∙ p.1.1),
  )

  pub history_then : (a b c : Ends T) → SameHistory a b → SameHistory b c → SameHistory a c
  history_then a b c s t = record {
    pairs = record { owner = t.pairs.owner ∙ s.pairs.owner; owners = t.pairs.owners ∙ s.pairs.owners; rings = λ k. rings_then (slice_get a.pairs.items k) (slice_get b.pairs.items k) (slice_get c.pairs.items k) (s.pairs.rings k) (t.pairs.rings k) };
    sent = λ j n. t.sent j (λ e. n (e ∙ s.pairs.owner)) ∙ s.sent j n;
    received = λ j n. t.received j (λ e. n (e ∙ s.pairs.owner)) ∙ s.received j n;
  }
