-- What can be forced, against the values of a certificate.
use Rattle.std.proofs.Common.{◌≡◌, ◌≢◌, ℕ, zero, suc, ◌+◌, ◌<◌, ◌≤◌, ◌⊎◌, inl, inr, Bool, true, false, List, sum, ℤ, pos, neg_ℤ, ◌-ℤ◌, ◌≤ℤ◌, ◌<ℤ◌, Option, Some, None, refl, sym, subst, arith}
use Rattle.std.proofs.lemmas.Int.{ints}
use Rattle.awari_board.specs.Rules.{IsMove, IsLegal, IsEnd, IsEnded, captured, next_board}
use Rattle.awari_table.specs.Certificate.{Table, IsRightBy}
use Rattle.awari_theory.specs.Older.{DistancesFall, IsCertificate}
use Rattle.awari_theory.specs.Worth.{Forced}
use Rattle.awari_theory.proofs.Moves.{stones_kept, move_of}
use Rattle.awari_theory.proofs.Keeps.{IsCovered}
use Rattle.awari_board.proofs.Keeping.{IsBoard-next}

-- a worth that is the table's value, of all covered boards with fewer stones than `top`
pub record IsValue (t : Table) (levels top : ℕ) (worth : List ℕ → ℤ → Type 0) : Type 0 where
  pub has : (q : List ℕ) → IsCovered levels q → sum q < top → worth q (t.value q)
  pub only : (q : List ℕ) (w : ℤ) → IsCovered levels q → sum q < top → worth q w → w ≡ t.value q

-- what a value allows: t on the mover's side, or on the other
abbrev pub allows : Bool → ℕ → ℤ → Type 0
allows true n v = pos n ≤ℤ v
allows false n v = v ≤ℤ neg_ℤ (pos n)

pub is_end : (p : List ℕ) → IsEnded p → (g : ℤ) × IsEnd p g
is_end p stuck = (_, record { stuck = stuck; gains = refl })

none_some : {x : ℕ} → (o : Option ℕ) → o ≡ None → o ≡ Some x → ⊥
none_some o a b = cc

-- a covered board is ended, or its plan is a legal pit
pub ended_or_planned : (t : Table) (levels limit : ℕ) → IsCertificate t levels limit → (p : List ℕ) → IsCovered levels p
    → IsEnded p ⊎ ((IsEnded p → ⊥) × ((x : ℕ) × (t.plan p ≡ Some x) × IsLegal p x))
ended_or_planned t levels limit cert p h = go (t.plan p) refl
  where
    right : IsRightBy DistancesFall t p
    right = cert.right p h.board h.stones

    no_plan : IsEnded p → t.plan p ≡ None
    no_plan stuck = (right.ends (is_end p stuck).0 (is_end p stuck).1).1

    go : (o : Option ℕ) → t.plan p ≡ o → IsEnded p ⊎ ((IsEnded p → ⊥) × ((x : ℕ) × (t.plan p ≡ Some x) × IsLegal p x))
    go None e = inl (λ x legal. let plan = right.has_plan (λ ended. ended x legal) in none_some (t.plan p) e plan.1)
    go (Some y) e =
        let not_ended : IsEnded p → ⊥ = λ ended. none_some (t.plan p) (no_plan ended) e in
        inr (not_ended, right.has_plan not_ended)

-- the next board is covered, and has no more stones
pub covered_move : (levels : ℕ) → (p : List ℕ) (x c : ℕ) (q : List ℕ) → IsCovered levels p → IsMove p x c q → IsCovered levels q × (sum q + c ≡ sum p)
covered_move levels p x c q h move =
    let kept = stones_kept p x c q h.board move in
    let low = h.stones in
    (record { board = IsBoard-next p x c q h.board move; stones = omega arith }, kept)

-- ---- what is forced is allowed

sound_end : (t : Table) (levels limit : ℕ) → IsCertificate t levels limit → (p : List ℕ) → IsCovered levels p → (side : Bool) (n : ℕ) (g : ℤ)
    → IsEnd p g → allows side n g → allows side n (t.value p)
sound_end t levels limit cert p h side n g end allowed = subst (allows side n) (sym ((cert.right p h.board h.stones).ends g end).0) allowed

pub sound : (t : Table) (levels limit top : ℕ) (worth : List ℕ → ℤ → Type 0) → IsCertificate t levels limit → IsValue t levels top worth
    → (k : ℕ) (side : Bool) (n : ℕ) (p : List ℕ) → IsCovered levels p → sum p ≤ top → Forced worth side n k p → allows side n (t.value p)
sound t levels limit top worth cert values zero true n p h low f = sound_end t levels limit cert p h true n f.0 f.1 f.2
sound t levels limit top worth cert values zero false n p h low f = sound_end t levels limit cert p h false n f.0 f.1 f.2
sound t levels limit top worth cert values (suc k) true n p h low (inl over) = sound_end t levels limit cert p h true n over.0 over.1 over.2
sound t levels limit top worth cert values (suc k) false n p h low (inl over) = sound_end t levels limit cert p h false n over.0 over.1 over.2
sound t levels limit top worth cert values (suc k) true n p h low (inr (x, c, q, move, inl taken)) =
    let next = covered_move levels p x c q h move in
    let is = values.only q taken.1 next.0 (omega (arith, taken.0, next.1)) taken.2 in
    let more = (cert.right p h.board h.stones).no_more x c q move in
    let enough = taken.3 in
    omega (arith, ints)
sound t levels limit top worth cert values (suc k) true n p h low (inr (x, c, q, move, inr quiet)) =
    let next = covered_move levels p x c q h move in
    let forced = sound t levels limit top worth cert values k false n q next.0 (omega (arith, next.1)) quiet.1 in
    let more = (cert.right p h.board h.stones).no_more x c q move in
    let none = quiet.0 in
    omega (arith, ints)
sound t levels limit top worth cert values (suc k) false n p h low (inr (not_ended, each)) =
    let right = cert.right p h.board h.stones in
    let plan = right.has_plan not_ended in
    let move = move_of p plan.0 plan.2 in
    let next = covered_move levels p plan.0 _ _ h move in
    let gains = right.plan_gains plan.0 _ _ plan.1 move in
    elim (each plan.0 _ _ move) [
      | inl taken ↦
          let is = values.only _ taken.1 next.0 (omega (arith, taken.0, next.1)) taken.2 in
          let enough = taken.3 in
          omega (arith, ints)
      | inr quiet ↦
          let forced = sound t levels limit top worth cert values k true n _ next.0 (omega (arith, next.1)) quiet.1 in
          let none = quiet.0 in
          omega (arith, ints)
    ]

-- ---- what is allowed can be forced, within the distance

-- the value is good for the side
abbrev pub favours : Bool → ℤ → Type 0
favours true v = pos 0 <ℤ v
favours false v = v <ℤ pos 0

favours_uneven : (side : Bool) (v : ℤ) → favours side v → v ≢ pos 0
favours_uneven true v h = omega (arith, ints)
favours_uneven false v h = omega (arith, ints)

-- what an ended board gives
end_forced : (t : Table) (levels limit : ℕ) → IsCertificate t levels limit → (p : List ℕ) → IsCovered levels p → (side : Bool) (n : ℕ)
    → allows side n (t.value p) → IsEnded p → (g : ℤ) × IsEnd p g × allows side n g
end_forced t levels limit cert p h side n allowed stuck =
    let end = is_end p stuck in
    (end.0, end.1, subst (allows side n) ((cert.right p h.board h.stones).ends end.0 end.1).0 allowed)

-- a board that is not even is ended at distance 0
far_ended : (t : Table) (levels limit : ℕ) → IsCertificate t levels limit → (p : List ℕ) → IsCovered levels p → (side : Bool)
    → favours side (t.value p) → t.dist p ≤ 0 → IsEnded p
far_ended t levels limit cert p h side good near =
    λ x legal.
    let far = (cert.right p h.board h.stones).distances.uneven (λ ended. ended x legal) (favours_uneven side _ good) in
    omega arith

zero_or_more : (c : ℕ) → (c ≡ 0) ⊎ (0 < c)
zero_or_more zero = inl refl
zero_or_more (suc c) = inr (omega arith)

-- what a ply of the winning side, by its plan, gives
won_ply : (c : ℕ) (v v' : ℤ) (d d' : ℕ) → (pos c -ℤ v') ≡ v → (0 < c) ⊎ (d' < d) → (0 < c) ⊎ ((c ≡ 0) × (d' < d) × (v' ≡ neg_ℤ v))
won_ply zero v v' d d' e (inl h) = absurd (omega arith)
won_ply zero v v' d d' e (inr h) = inr (refl, h, omega (arith, ints))
won_ply (suc c) v v' d d' e h = inl (omega arith)

pub reaches : (t : Table) (levels limit top : ℕ) (worth : List ℕ → ℤ → Type 0) → IsCertificate t levels limit → IsValue t levels top worth
    → (k : ℕ) (side : Bool) (n : ℕ) (p : List ℕ) → IsCovered levels p → sum p ≤ top → favours side (t.value p) → allows side n (t.value p) → t.dist p ≤ k
    → Forced worth side n k p
reaches t levels limit top worth cert values zero true n p h low good allowed near =
    end_forced t levels limit cert p h true n allowed (far_ended t levels limit cert p h true good near)
reaches t levels limit top worth cert values zero false n p h low good allowed near =
    end_forced t levels limit cert p h false n allowed (far_ended t levels limit cert p h false good near)
reaches t levels limit top worth cert values (suc k) true n p h low good allowed near =
    elim (ended_or_planned t levels limit cert p h) [
      | inl stuck ↦ inl (end_forced t levels limit cert p h true n allowed stuck)
      | inr planned ↦
          let x = planned.1.0 in
          let plan = planned.1.1 in
          let move = move_of p x planned.1.2 in
          let right = cert.right p h.board h.stones in
          let next = covered_move levels p x _ _ h move in
          let gains = right.plan_gains x _ _ plan move in
          inr (
            x,
            captured p x,
            next_board p x,
            move,
            elim (won_ply (captured p x) (t.value p) (t.value (next_board p x)) (t.dist p) (t.dist (next_board p x)) gains (right.distances.winning good x _ _ plan move)) [
              | inl taken ↦ inl (taken, t.value (next_board p x), values.has _ next.0 (omega (arith, next.1)), omega (arith, ints))
              | inr quiet ↦
                  let turned_value = quiet.2 in
                  inr (
                    quiet.0,
                    reaches t levels limit top worth cert values k false n (next_board p x) next.0 (omega (arith, next.1))
                        (omega (arith, ints)) (omega (arith, ints)) (omega (arith, quiet.1)),
                  )
            ],
          )
    ]
reaches t levels limit top worth cert values (suc k) false n p h low good allowed near =
    elim (ended_or_planned t levels limit cert p h) [
      | inl stuck ↦ inl (end_forced t levels limit cert p h false n allowed stuck)
      | inr planned ↦ inr (
        planned.0,
        λ x c q move.
            let right = cert.right p h.board h.stones in
            let next = covered_move levels p x c q h move in
            let more = right.no_more x c q move in
            elim (zero_or_more c) [
              | inr taken ↦ inl (taken, t.value q, values.has q next.0 (omega (arith, next.1)), omega (arith, ints))
              | inl none ↦
                  let fell = right.distances.losing good x q (subst (λ z. IsMove p x z q) none move) in
                  inr (
                    none,
                    reaches t levels limit top worth cert values k true n q next.0 (omega (arith, next.1))
                        (omega (arith, ints)) (omega (arith, ints)) (omega arith),
                  )
            ],
      )
    ]
