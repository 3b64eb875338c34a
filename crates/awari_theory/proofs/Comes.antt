-- A play in which both follow the plans comes to an outcome.
use Rattle.std.proofs.Common.{◌≡◌, ℕ, zero, suc, ◌+◌, ◌*◌, ◌<◌, ◌≤◌, ◌⊎◌, inl, inr, true, false, if◌then◌else◌, ◌==◌, List, [], ◌∷◌, sum, ℤ, ◌≤ℤ◌, Some, ◌++◌, length, refl, sym, ap, subst, arith}
use Rattle.std.proofs.lemmas.Int.{ints}
use Rattle.std.proofs.lemmas.Bool.{cases_lt}
use Rattle.awari_board.specs.Rules.{IsBoard, IsLegal, captured, next_board}
use Rattle.awari_game.specs.Plays.{Standing, start, after, IsPlay, IsOutcome, Follows, Ends}
use Rattle.awari_table.specs.Certificate.{Table}
use Rattle.awari_theory.specs.Older.{IsCertificate}
use Rattle.awari_theory.specs.Secures.{Comes}
use Rattle.awari_theory.proofs.Moves.{stones_kept, move_of}
use Rattle.awari_theory.proofs.Sides.{quiet_none}
use Rattle.awari_theory.proofs.Keeps.{IsCovered, covered_next, secures}
use Rattle.awari_theory.proofs.Forces.{ended_or_planned, is_end}
use Rattle.awari_board.proofs.Keeping.{IsBoard-next}

-- the rest of a play by the plans, from a standing to an outcome
abbrev Rest : Table → ℕ → Standing → Type 0
Rest t most s =
    (xs : List ℕ) × (to : Standing) × (o : ℤ) × IsPlay s xs to × IsOutcome most to o × Follows t.plan true s xs × Follows t.plan false s xs

-- the plies that are left at most: each capture leaves fewer stones, and between captures there are no more than most + 1
nearer : (most m c quiet n : ℕ) → quiet ≤ most → (m + c) * (most + 2) + (most + 1) ≤ suc n + quiet
    → m * (most + 2) + (most + 1) ≤ n + (if c == 0 then quiet + 1 else 0)
nearer most m zero quiet n low h = omega arith
nearer most m (suc c) quiet n low h = let none = quiet_none (suc c) quiet (omega arith) in omega arith

over : (most m quiet : ℕ) → quiet ≤ most → m * (most + 2) + (most + 1) ≤ zero + quiet → ⊥
over most m quiet low h = omega arith

-- an outcome stands here, or the plan is played
over_or_planned : (t : Table) (levels limit most : ℕ) → IsCertificate t levels limit → (s : Standing) → IsCovered levels s.board
    → Rest t most s ⊎ ((s.quiet ≤ most) × ((x : ℕ) × (t.plan s.board ≡ Some x) × IsLegal s.board x))
over_or_planned t levels limit most cert s h =
    elim (ended_or_planned t levels limit cert s.board h) [
      | inl stuck ↦
          let end = is_end s.board stuck in
          inl ([], s, _, refl, inl (end.0, end.1, refl), tt, tt)
      | inr planned ↦
          elim (cases_lt most s.quiet) [
            | inl long ↦ inl ([], s, _, refl, inr (planned.0, long, refl), tt, tt)
            | inr low ↦ inr (low, planned.1)
          ]
    ]

rest : (t : Table) (levels limit most : ℕ) → IsCertificate t levels limit → (n : ℕ) (s : Standing) → IsCovered levels s.board
    → sum s.board * (most + 2) + (most + 1) ≤ n + s.quiet → Rest t most s
rest t levels limit most cert zero s h room =
    elim (over_or_planned t levels limit most cert s h) [
      | inl done ↦ done
      | inr goes ↦ absurd (over most (sum s.board) s.quiet goes.0 room)
    ]
rest t levels limit most cert (suc n) s h room =
    elim (over_or_planned t levels limit most cert s h) [
      | inl done ↦ done
      | inr (low, (x, plan, legal)) ↦
          let kept = stones_kept s.board x (captured s.board x) (next_board s.board x) h.board (move_of s.board x legal) in
          let room_then = subst (λ m. m * (most + 2) + (most + 1) ≤ suc n + s.quiet) (sym kept) room in
          let (xs, to, o, play, out, first, second) = rest t levels limit most cert n (after s x) (covered_next levels s.board x h legal)
          (nearer most (sum (next_board s.board x)) (captured s.board x) s.quiet n low room_then) in
          (x ∷ xs, to, o, (legal, play), out, ((λ mine. plan), first), ((λ mine. plan), second))
    ]

pub same_number : (a b : ℤ) → a ≤ℤ b → b ≤ℤ a → b ≡ a
same_number a b h k = omega (arith, ints)

pub comes : (t : Table) (levels limit : ℕ) → IsCertificate t levels limit → (p : List ℕ) → IsBoard p → sum p < levels → Comes t limit p
comes t levels limit cert p board stones =
    λ most more.
    let (xs, to, o, play, out, first, second) = rest t levels limit most cert (sum p * (most + 2) + (most + 1)) (start p)
    (record { board = board; stones = stones }) (omega arith) in
    let both = secures t levels limit cert p board stones most xs to o more play out in
    (xs, to, play, subst (IsOutcome most to) (same_number _ _ (both.0 first) (both.1 second)) out, first, second)

-- ---- every play comes to an outcome

-- a play has an outcome on the way
abbrev Passes : ℕ → Standing → List ℕ → Type 0
Passes most s xs =
    (ys zs : List ℕ) × (u : Standing) × (o : ℤ) × (xs ≡ ys ++ zs) × IsPlay s ys u × IsOutcome most u o

passes_later : (most : ℕ) (s : Standing) (x : ℕ) (xs : List ℕ) → IsLegal s.board x → Passes most (after s x) xs → Passes most s (x ∷ xs)
passes_later most s x xs legal (ys, zs, u, o, same, play, out) = (x ∷ ys, zs, u, o, ap (λ rest. x ∷ rest) same, (legal, play), out)

passes_here : (most : ℕ) (s : Standing) (x : ℕ) (xs : List ℕ) → IsLegal s.board x → most < s.quiet → Passes most s (x ∷ xs)
passes_here most s x xs legal enough = ([], x ∷ xs, s, s.running, refl, refl, inr ((λ ended. ended x legal), enough, refl))

passes : (most n : ℕ) (s to : Standing) (xs : List ℕ) → IsBoard s.board → sum s.board * (most + 2) + (most + 1) ≤ n + s.quiet → IsPlay s xs to → n < length xs
    → Passes most s xs
passes most n s to [] board room play long = absurd (omega arith)
passes most zero s to (x ∷ xs) board room play long =
    elim (cases_lt most s.quiet) [
      | inl enough ↦ passes_here most s x xs play.0 enough
      | inr low ↦ absurd (over most (sum s.board) s.quiet low room)
    ]
passes most (suc n) s to (x ∷ xs) board room play long =
    elim (cases_lt most s.quiet) [
      | inl enough ↦ passes_here most s x xs play.0 enough
      | inr low ↦
          let move = move_of s.board x play.0 in
          let kept = stones_kept s.board x (captured s.board x) (next_board s.board x) board move in
          let room_then = subst (λ m. m * (most + 2) + (most + 1) ≤ suc n + s.quiet) (sym kept) room in
          passes_later most s x xs play.0
          (passes most n (after s x) to xs (IsBoard-next s.board x _ _ board move)
          (nearer most (sum (next_board s.board x)) (captured s.board x) s.quiet n low room_then) play.1 (omega arith))
    ]

pub ends : (p : List ℕ) → IsBoard p → Ends p
ends p board = λ most xs s play long. passes most (sum p * (most + 2) + (most + 1)) (start p) s xs board (omega arith) play long
