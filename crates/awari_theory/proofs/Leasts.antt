-- Distances that are the least are those by which play alone measures how soon it is.
use Rattle.std.proofs.Common.{◌≡◌, ◌≢◌, ℕ, zero, suc, ◌<◌, ◌≤◌, inl, inr, List, sum, ℤ, pos, ◌-ℤ◌, ◌≤ℤ◌, ◌<ℤ◌, sym, ap, ◌∙◌, subst, arith}
use Rattle.std.proofs.lemmas.Int.{ints}
use Rattle.awari_board.specs.Rules.{IsBoard, IsMove, IsEnded}
use Rattle.awari_table.specs.Certificate.{Table, DistancesAreLeast}
use Rattle.awari_theory.specs.Older.{IsCertificate}
use Rattle.awari_table.proofs.CertificateLemmas.{plies_cases}
use Rattle.awari_theory.specs.Worth.{IsWorth}
use Rattle.awari_theory.specs.Least.{Within, IsLeastDistance}
use Rattle.awari_theory.proofs.Keeps.{IsCovered}
use Rattle.awari_theory.proofs.Forces.{IsValue, is_end, ended_or_planned, covered_move}
use Rattle.awari_theory.proofs.Worths.{values}
use Rattle.awari_theory.proofs.Sides.{value_cases}

-- a quiet move by which the value stays, or falls short of a negative one, leads to a board that is not even
turned_uneven : (v w : ℤ) → (pos 0 -ℤ w) ≡ v → v ≢ pos 0 → w ≢ pos 0
turned_uneven v w gain other even = other (omega (arith, ints))

below_uneven : (v w : ℤ) → (pos 0 -ℤ w) ≤ℤ v → v <ℤ pos 0 → w ≢ pos 0
below_uneven v w more down even = omega (arith, ints)

module _ (t : Table) (levels limit : ℕ) (cert : IsCertificate t levels limit) (least : (p : List ℕ) → IsBoard p → sum p < levels → DistancesAreLeast t p) where
  known : IsValue t levels levels IsWorth
  known = values t levels limit cert

  ended_near : (p : List ℕ) → IsCovered levels p → IsEnded p → t.dist p ≡ 0
  ended_near p h stuck = let end = is_end p stuck in ((cert.right p h.board h.stones).ends end.0 end.1).2

  -- a board is within its distance
  within : (k : ℕ) (p : List ℕ) → IsCovered levels p → t.value p ≢ pos 0 → t.dist p ≤ k → Within k p
  within zero p h other near = elim (ended_or_planned t levels limit cert p h) [
    | inl stuck ↦ stuck
    | inr planned ↦ let some = (cert.right p h.board h.stones).distances.uneven planned.0 other in absurd (omega arith)
  ]
  within (suc k) p h other near = elim (ended_or_planned t levels limit cert p h) [
    | inl stuck ↦ inl stuck
    | inr planned ↦ elim (value_cases (t.value p)) [
      | inl up ↦
          let (x, c, q, move, gain, takes) = ((least p h.board h.stones).won planned.0 up).0 in
          let next = covered_move levels p x c q h move in
          let here = known.has p h h.stones in
          let there = known.has q next.0 next.0.stones in
          inr (inl (
            t.value p,
            here,
            up,
            (
              x,
              c,
              q,
              t.value q,
              move,
              there,
              gain,
              elim (plies_cases c (t.dist q)) [
                | inl taken ↦ inl taken.0
                | inr quiet ↦
                    let turned = subst (λ n. (pos n -ℤ t.value q) ≡ t.value p) quiet.0 gain in
                    inr (within k q next.0 (turned_uneven (t.value p) (t.value q) turned other) (omega (arith, takes, quiet.1)))
              ],
            ),
          ))
      | inr (inl down) ↦
          let all = ((least p h.board h.stones).lost planned.0 down).1 in
          inr (inr (
            t.value p,
            known.has p h h.stones,
            down,
            λ x q move.
                let next = covered_move levels p x 0 q h move in
                let more = (cert.right p h.board h.stones).no_more x 0 q move in
                let later = all x 0 q move in
                within k q next.0 (below_uneven (t.value p) (t.value q) more down) (omega (arith, later)),
          ))
      | inr (inr even) ↦ absurd (other even)
    ]
  ]

  -- and within no fewer plies
  soonest : (k : ℕ) (p : List ℕ) → IsCovered levels p → t.value p ≢ pos 0 → Within k p → t.dist p ≤ k
  soonest zero p h other stuck = omega (arith, ended_near p h stuck)
  soonest (suc k) p h other (inl stuck) = omega (arith, ended_near p h stuck)
  soonest (suc k) p h other (inr (inl (w, is, up, (x, c, q, v, move, its, gain, near)))) =
      let next = covered_move levels p x c q h move in
      let here = known.only p w h h.stones is in
      let there = known.only q v next.0 next.0.stones its in
      let gains : (pos c -ℤ t.value q) ≡ t.value p = ap (λ z. pos c -ℤ z) (sym there) ∙ gain ∙ here in
      let most = ((least p h.board h.stones).won (λ stuck. stuck x move.legal) (subst (λ z. pos 0 <ℤ z) here up)).1 x c q move gains in
      elim (plies_cases c (t.dist q)) [
        | inl taken ↦ omega (arith, most, taken.1)
        | inr quiet ↦ elim near [
          | inl taken ↦ absurd (omega (arith, taken, quiet.0))
          | inr sooner ↦
              let turned = subst (λ n. (pos n -ℤ t.value q) ≡ t.value p) quiet.0 gains in
              let rest = soonest k q next.0 (turned_uneven (t.value p) (t.value q) turned other) sooner in
              omega (arith, most, quiet.1, rest)
        ]
      ]
  soonest (suc k) p h other (inr (inr (w, is, down, each))) = elim (ended_or_planned t levels limit cert p h) [
    | inl stuck ↦ omega (arith, ended_near p h stuck)
    | inr planned ↦
        let here = known.only p w h h.stones is in
        let lost : t.value p <ℤ pos 0 = subst (λ z. z <ℤ pos 0) here down in
        let (x, c, q, move, takes) = ((least p h.board h.stones).lost planned.0 lost).0 in
        let next = covered_move levels p x c q h move in
        elim (plies_cases c (t.dist q)) [
          | inl taken ↦ omega (arith, takes, taken.1)
          | inr quiet ↦
              let plain = subst (λ n. IsMove p x n q) quiet.0 move in
              let more = (cert.right p h.board h.stones).no_more x 0 q plain in
              let rest = soonest k q next.0 (below_uneven (t.value p) (t.value q) more lost) (each x q plain) in
              omega (arith, takes, quiet.1, rest)
        ]
  ]

  pub dist_is_least : (p : List ℕ) → IsBoard p → sum p < levels → IsLeastDistance p (t.dist p)
  dist_is_least p board low =
      let h : IsCovered levels p = record { board = board; stones = low } in
      let uneven : t.value p ≢ pos 0 → IsLeastDistance p (t.dist p)
      = λ other. inr (λ zero. other (sym (known.only p (pos 0) h low zero)), within (t.dist p) p h other (omega arith), λ k near. soonest k p h other near) in
      elim (value_cases (t.value p)) [
        | inl up ↦ uneven (λ even. omega (arith, ints))
        | inr (inl down) ↦ uneven (λ even. omega (arith, ints))
        | inr (inr even) ↦ inl (subst (IsWorth p) even (known.has p h low), (least p board low).even even)
      ]

-- a least distance is one number
pub least_unique : (p : List ℕ) (a b : ℕ) → IsLeastDistance p a → IsLeastDistance p b → a ≡ b
least_unique p a b (inl x) (inl y) = x.1 ∙ sym y.1
least_unique p a b (inl x) (inr y) = absurd (y.0 x.0)
least_unique p a b (inr x) (inl y) = absurd (x.0 y.0)
least_unique p a b (inr x) (inr y) = omega (arith, x.2 b y.1, y.2 a x.1)
