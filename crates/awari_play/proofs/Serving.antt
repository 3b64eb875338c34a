-- Which pit serves as a plan.
use Rattle.std.proofs.Common.{◌≡◌, ℕ, zero, suc, ◌+◌, ◌<◌, ◌≤◌, ◌⊎◌, ◌↔◌, Bool, false, IsTrue, List, refl, sym, ap, ◌∙◌, subst, arith, inl, inr}
use Rattle.std.proofs.lemmas.Bool.{cases_lt}
use Rattle.std.specs.Prelude.{pos, ◌-ℤ◌, ◌<ℤ◌, Option, Some, None, IfSome}
use Rattle.awari_board.specs.Rules.{IsEnded, IsLegal, IsMove}
use Rattle.awari_table.specs.Certificate.{Table, plies}
use Rattle.awari_table.specs.declared.images.Entry.{Entry}
use Rattle.awari_table.specs.declared.rules.Reached.{Reached}
use Rattle.awari_play.specs.Plan.{Serves, IsLowest}
use Rattle.awari_play.specs.Planning.{Gains}

-- a move that takes this many plies leads to a smaller distance, or captures
near_by : (c k d e : ℕ) → k ≡ plies c d → ((0 < c) ⊎ (k ≤ e)) ↔ ((0 < c) ⊎ (d < e))
near_by zero k d e is = (
  λ near. elim near [ inl some ↦ inl some | inr few ↦ inr (omega (arith, is, few)) ],
  λ near. elim near [ inl some ↦ inl some | inr less ↦ inr (omega (arith, is, less)) ],
)
near_by (suc c) k d e is = (λ near. inl (omega arith), λ near. inl (omega arith))

-- a pit has one move, so that it serves where that move does
pub serves_by : (t : Table) (p : List ℕ) (x : ℕ) (q : List ℕ) (own : Entry) (m : Reached) (b : Bool) → IsMove p x m.captured q
    → own.value ≡ t.value p → own.dist ≡ t.dist p → m.value ≡ t.value q → m.plies ≡ plies m.captured (t.dist q) → (IsTrue b ↔ Gains own m) → IsTrue b ↔ Serves t p x
serves_by t p x q own m b move own_value own_dist its_value its_plies is = (to, from)
  where
    near : ((0 < m.captured) ⊎ (m.plies ≤ own.dist)) ↔ ((0 < m.captured) ⊎ (t.dist q < own.dist))
    near = near_by m.captured m.plies (t.dist q) own.dist its_plies

    to : IsTrue b → Serves t p x
    to sure =
        let gains = is.0 sure in (
          m.captured,
          q,
          move,
          ap (λ v. pos m.captured -ℤ v) (sym its_value) ∙ gains.0 ∙ own_value,
          λ won. subst (λ d. (0 < m.captured) ⊎ (t.dist q < d)) own_dist (near.0 (gains.1 (subst (λ v. pos 0 <ℤ v) (sym own_value) won))),
        )

    from : Serves t p x → IsTrue b
    from (d, r, other, gains, falls) =
        let same : d ≡ m.captured = other.captures ∙ sym move.captures in
        let there : r ≡ q = other.leaves ∙ sym move.leaves in
        is.1 (
          ap (λ v. pos m.captured -ℤ v) (its_value ∙ ap t.value (sym there)) ∙ ap (λ n. pos n -ℤ t.value r) (sym same) ∙ gains ∙ sym own_value,
          λ won.
              near.1
              (subst (λ n. (0 < n) ⊎ (t.dist q < own.dist)) same
              (subst (λ (a : List ℕ). (0 < d) ⊎ (t.dist a < own.dist)) there
              (subst (λ e. (0 < d) ⊎ (t.dist r < e)) (sym own_dist) (falls (subst (λ v. pos 0 <ℤ v) own_value won))))),
        )

-- no pit below this one serves
pub record NoneBelow (t : Table) (p : List ℕ) (x : ℕ) : Type 0 where
  pub none : (y : ℕ) → y < x → Serves t p y → ⊥

pub none_below : (t : Table) (p : List ℕ) → NoneBelow t p 0
none_below t p = record { none = λ y before serves. omega (arith, before) }

-- nor does one that was tried
pub none_more : {t : Table} {p : List ℕ} {b : Bool} (x : ℕ) → (IsTrue b ↔ Serves t p x) → b ≡ false → NoneBelow t p x → NoneBelow t p (x + 1)
none_more {t} {p} {b} x is fails below = record {
  none = λ y before serves.
      elim (cases_lt y x) [ inl lt ↦ below.none y lt serves | inr ge ↦ let e : y ≡ x = omega arith in clash b fails (is.1 (subst (λ z. Serves t p z) e serves)) ];
}
  where
    clash : (b : Bool) → b ≡ false → IsTrue b → ⊥
    clash b e sure = grind arith

-- only an own pit serves
pub own_serves : (t : Table) (p : List ℕ) (x : ℕ) → Serves t p x → x < 6
own_serves t p x serves = serves.2.legal.own

-- so none does where all six were tried
pub none_serves : (t : Table) (p : List ℕ) → NoneBelow t p 6 → (x : ℕ) → Serves t p x → ⊥
none_serves t p below x serves = below.none x (own_serves t p x serves) serves

-- tables that say the same values and distances have the same plans
serves_alike : (t u : Table) (p : List ℕ) (x : ℕ) → ((q : List ℕ) → u.value q ≡ t.value q) → ((q : List ℕ) → u.dist q ≡ t.dist q) → Serves t p x → Serves u p x
serves_alike t u p x values dists (c, q, move, gains, falls) = (
  c,
  q,
  move,
  ap (λ v. pos c -ℤ v) (values q) ∙ gains ∙ sym (values p),
  λ won. subst (λ d. (0 < c) ⊎ (u.dist q < d)) (sym (dists p)) (subst (λ d. (0 < c) ⊎ (d < t.dist p)) (sym (dists q)) (falls (subst (λ v. pos 0 <ℤ v) (values p) won))),
)

pub lowest_alike : (t u : Table) (p : List ℕ) (plan : Option ℕ) → ((q : List ℕ) → u.value q ≡ t.value q) → ((q : List ℕ) → u.dist q ≡ t.dist q) → IsLowest t p plan → IsLowest u p plan
lowest_alike t u p None values dists none = λ x serves. none x (serves_alike u t p x (λ q. sym (values q)) (λ q. sym (dists q)) serves)
lowest_alike t u p (Some x) values dists lowest = (
  serves_alike t u p x values dists lowest.0,
  λ y below serves. lowest.1 y below (serves_alike u t p y (λ q. sym (values q)) (λ q. sym (dists q)) serves),
)

-- what the lowest plan says, if there is one, and if there is none
pub lowest_own : (t : Table) (p : List ℕ) (o : Option ℕ) → IsLowest t p o → IfSome o (λ x. x < 6)
lowest_own t p None h = tt
lowest_own t p (Some x) h = own_serves t p x h.0

pub lowest_ended : (t : Table) (p : List ℕ) (o : Option ℕ) → IsLowest t p o → IsEnded p → o ≡ None
lowest_ended t p None h stuck = refl
lowest_ended t p (Some x) h stuck = absurd (stuck x h.0.2.legal)

pub lowest_there : (t : Table) (p : List ℕ) (x : ℕ) (o : Option ℕ) → IsLowest t p o → Serves t p x → (y : ℕ) × (o ≡ Some y) × IsLegal p y
lowest_there t p x None h serves = absurd (h x serves)
lowest_there t p x (Some y) h serves = (y, refl, h.0.2.legal)

pub lowest_serves : (t : Table) (p : List ℕ) (x : ℕ) (o : Option ℕ) → IsLowest t p o → o ≡ Some x → Serves t p x
lowest_serves t p x o h is = (subst (λ o. IsLowest t p o) is h).0
