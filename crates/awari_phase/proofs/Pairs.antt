-- A look at two owners' ends, where they stand.
use Rattle.std.proofs.Common.{◌≡◌, ℕ, zero, suc, refl, ◌<◌, List, [], ◌∷◌, ◌++◌, length, get_or, set, take, drop, map, sym, ap, subst, ◌∙◌, arith, add-zero, IsTrue, ◌↔◌, Bool}
use Rattle.std.proofs.lemmas.List.{map-set, get_or-take, get_or-drop, length-map}
use Rattle.std.proofs.Math.ListN.{get_or-map}
use Rattle.std.specs.List.{take-map, drop-map}
use Rattle.std.proofs.lemmas.List.{map-append}
use Rattle.awari_lines.specs.Rings.{IsGrid, IsOther, Paired, Looked, LookedAt, IsExact, NothingWaits, owners_of}
use Rattle.awari_lines.specs.declared.ends.Ends.{Ends}
use Rattle.awari_phase.specs.declared.owners.Owner.{Owner}
use Rattle.awari_phase.specs.Owners.{Notes, all_ends, ends_of, rest_of}
use Rattle.awari_lines.proofs.Grids.{parts_paired, parts_looked, parts_flag}

-- a write that leaves all but the rings as it was
same_rest : (xs : List Owner) (i : ℕ) (a d : Owner) → rest_of a ≡ rest_of (get_or xs i d) → map rest_of (set xs i a) ≡ map rest_of xs
same_rest [] i a d e = refl
same_rest (x ∷ xs) zero a d e = ap (λ r. r ∷ map rest_of xs) e
same_rest (x ∷ xs) (suc i) a d e = ap (λ l. rest_of x ∷ l) (same_rest xs i a d e)

take_drop : (xs : List Owner) (j : ℕ) → take j xs ++ drop j xs ≡ xs
take_drop [] zero = refl
take_drop [] (suc j) = refl
take_drop (x ∷ xs) zero = refl
take_drop (x ∷ xs) (suc j) = ap (λ l. x ∷ l) (take_drop xs j)

module _ (os front back : List Owner) (i j : ℕ) (x y : Owner) (f : front ≡ take j os) (k : back ≡ drop j os) (lt : i < j) (fits : j < length os) (g : IsGrid (all_ends os)) where
  ff : all_ends front ≡ take j (all_ends os)
  ff = ap all_ends f ∙ sym (take-map ends_of j os)

  kk : all_ends back ≡ drop j (all_ends os)
  kk = ap all_ends k ∙ sym (drop-map ends_of j os)

  fits_ends : j < length (all_ends os)
  fits_ends = rw (length-map os ends_of) fits

  at_front : get_or (all_ends front) i x.ends ≡ (get_or front i x).ends
  at_front = get_or-map ends_of front i x

  at_back : get_or (all_ends back) 0 y.ends ≡ (get_or back 0 y).ends
  at_back = get_or-map ends_of back 0 y

  front_in : get_or (all_ends os) i x.ends ≡ (get_or front i x).ends
  front_in = sym (ap (λ l. get_or l i x.ends) ff ∙ get_or-take j (all_ends os) i x.ends lt) ∙ at_front

  back_in : get_or (all_ends os) j y.ends ≡ (get_or back 0 y).ends
  back_in = sym (ap (λ l. get_or l 0 y.ends) kk ∙ (get_or-drop j (all_ends os) 0 y.ends ∙ ap (λ n. get_or (all_ends os) n y.ends) (add-zero j))) ∙ at_back

  front_owner : (get_or front i x).ends.owner ≡ i
  front_owner = ap (λ (e : Ends Notes). e.owner) (sym front_in) ∙ g.owner i x.ends (let h = fits_ends in omega (arith, h))

  back_owner : (get_or back 0 y).ends.owner ≡ j
  back_owner = ap (λ (e : Ends Notes). e.owner) (sym back_in) ∙ g.owner j y.ends fits_ends

  front_owners : owners_of (get_or front i x).ends ≡ length (all_ends os)
  front_owners = ap owners_of (sym front_in) ∙ g.owners i x.ends (let h = fits_ends in omega (arith, h))

  back_owners : owners_of (get_or back 0 y).ends ≡ length (all_ends os)
  back_owners = ap owners_of (sym back_in) ∙ g.owners j y.ends fits_ends

  pub other_of : IsOther (get_or front i x).ends (get_or back 0 y).ends.owner
  other_of = ((λ e. absurd (let a = front_owner in let b = back_owner in omega (arith, e, a, b))), (let a = back_owner in let b = front_owners in let h = fits_ends in omega (arith, a, b, h)))

  pub this_of : IsOther (get_or back 0 y).ends (get_or front i x).ends.owner
  this_of = ((λ e. absurd (let a = front_owner in let b = back_owner in omega (arith, e, a, b))), (let a = front_owner in let b = back_owners in let h = fits_ends in omega (arith, a, b, h)))

  pub owners_paired : Paired (get_or front i x).ends (get_or back 0 y).ends
  owners_paired =
      subst (λ (u : Ends Notes). Paired u (get_or back 0 y).ends) at_front
      (subst (λ (u : Ends Notes). Paired (get_or (all_ends front) i x.ends) u) at_back (parts_paired (all_ends os) (all_ends front) (all_ends back) i j x.ends y.ends ff kk lt fits_ends g))

  written : (a b : Owner) → all_ends (set front i a ++ set back 0 b) ≡ set (all_ends front) i a.ends ++ set (all_ends back) 0 b.ends
  written a b = map-append ends_of (set front i a) (set back 0 b) ∙ (ap (λ l. l ++ map ends_of (set back 0 b)) (map-set ends_of front i a) ∙ ap (λ l. set (map ends_of front) i a.ends ++ l) (map-set ends_of back 0 b))

  pub owners_looked : (a b : Owner) → Looked (get_or front i x).ends a.ends (get_or back 0 y).ends.owner → Looked (get_or back 0 y).ends b.ends (get_or front i x).ends.owner → IsExact a.ends b.ends → LookedAt (all_ends os) (all_ends (set front i a ++ set back 0 b)) i j
  owners_looked a b la lb ex =
      subst (λ (l : List (Ends Notes)). LookedAt (all_ends os) l i j) (sym (written a b))
      (parts_looked (all_ends os) (all_ends front) (all_ends back) i j x.ends y.ends ff kk lt fits_ends g a.ends b.ends
      (subst (λ (u : Ends Notes). Looked u a.ends (get_or (all_ends back) 0 y.ends).owner) (sym at_front) (subst (λ (u : Ends Notes). Looked (get_or front i x).ends a.ends u.owner) (sym at_back) la))
      (subst (λ (u : Ends Notes). Looked u b.ends (get_or (all_ends front) i x.ends).owner) (sym at_back) (subst (λ (u : Ends Notes). Looked (get_or back 0 y).ends b.ends u.owner) (sym at_front) lb))
      ex)

  pub owners_flag : (r : Bool) (a b : Owner) → (IsTrue r ↔ NothingWaits a.ends b.ends) → (d : Ends Notes) → IsTrue r ↔ NothingWaits (get_or (all_ends (set front i a ++ set back 0 b)) i d) (get_or (all_ends (set front i a ++ set back 0 b)) j d)
  owners_flag r a b h d =
      subst (λ (l : List (Ends Notes)). IsTrue r ↔ NothingWaits (get_or l i d) (get_or l j d)) (sym (written a b)) (parts_flag (all_ends os) (all_ends front) (all_ends back) i j x.ends y.ends ff kk lt fits_ends g r a.ends b.ends h d)

  -- all but the rings is as it was
  pub rest_written : (a b : Owner) → rest_of a ≡ rest_of (get_or front i x) → rest_of b ≡ rest_of (get_or back 0 y) → map rest_of (set front i a ++ set back 0 b) ≡ map rest_of os
  rest_written a b p q =
      map-append rest_of (set front i a) (set back 0 b)
      ∙ (ap (λ l. l ++ map rest_of (set back 0 b)) (same_rest front i a x p) ∙ (ap (λ l. map rest_of front ++ l) (same_rest back 0 b y q)
      ∙ (sym (map-append rest_of front back) ∙ ap (map rest_of) (ap (λ l. l ++ back) f ∙ (ap (λ l. take j os ++ l) k ∙ take_drop os j)))))
