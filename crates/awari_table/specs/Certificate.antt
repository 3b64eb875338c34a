-- What a table has to say of each board: the rules V1 to V6.
use Rattle.std.specs.Prelude.{◌≡◌, ℕ, ◌+◌, ◌<◌, ◌≤◌, ◌==◌, if◌then◌else◌, ◌⊎◌, List, sum, ℤ, pos, neg_ℤ, ◌-ℤ◌, ◌≤ℤ◌, ◌<ℤ◌, Option, Some, None, IfSome}
use Rattle.awari_board.specs.Rules.{IsMove, IsLegal, IsEnd, IsEnded}

-- what a table says of each board
pub record Table : Type 0 where
  pub value : List ℕ → ℤ
  pub plan : List ℕ → Option ℕ
  pub dist : List ℕ → ℕ

-- V1: the value is within the stones on the board, and a plan is an own pit.
abbrev pub InRange : Table → List ℕ → Type 0
InRange t p = (neg_ℤ (pos (sum p)) ≤ℤ t.value p) × (t.value p ≤ℤ pos (sum p)) × IfSome (t.plan p) (λ x. x < 6)

-- V2: an ended board has its gain, no plan, and distance 0.
abbrev pub EndIsRight : Table → List ℕ → Type 0
EndIsRight t p = (g : ℤ) → IsEnd p g → (t.value p ≡ g) × (t.plan p ≡ None) × (t.dist p ≡ 0)

-- V3: any other board has a legal plan.
abbrev pub HasPlan : Table → List ℕ → Type 0
HasPlan t p = (IsEnded p → ⊥) → (x : ℕ) × (t.plan p ≡ Some x) × IsLegal p x

-- V4: no move gains more than the value. A move gains what it captures, less the value of the board that it leaves.
abbrev pub NoMoveGainsMore : Table → List ℕ → Type 0
NoMoveGainsMore t p = (x c : ℕ) (q : List ℕ) → IsMove p x c q → (pos c -ℤ t.value q) ≤ℤ t.value p

-- V5: the plan gains the value.
abbrev pub PlanGains : Table → List ℕ → Type 0
PlanGains t p = (x c : ℕ) (q : List ℕ) → t.plan p ≡ Some x → IsMove p x c q → (pos c -ℤ t.value q) ≡ t.value p

-- how many plies a move takes: one where it captures, and else one more than the distance of the board that it leaves
abbrev pub plies : ℕ → ℕ → ℕ
plies c dist = if c == 0 then dist + 1 else 1

-- a move gains the value, and takes this many plies
abbrev pub GainsIn : Table → List ℕ → ℕ → Type 0
GainsIn t p k = (x c : ℕ) × (q : List ℕ) × IsMove p x c q × ((pos c -ℤ t.value q) ≡ t.value p) × (plies c (t.dist q) ≡ k)

-- each move that gains the value takes at least this many
abbrev pub GainsNoSooner : Table → List ℕ → ℕ → Type 0
GainsNoSooner t p k = (x c : ℕ) (q : List ℕ) → IsMove p x c q → (pos c -ℤ t.value q) ≡ t.value p → k ≤ plies c (t.dist q)

-- a move takes this many plies, and each move takes at most this many
abbrev pub MovesIn : Table → List ℕ → ℕ → Type 0
MovesIn t p k = (x c : ℕ) × (q : List ℕ) × IsMove p x c q × (plies c (t.dist q) ≡ k)

abbrev pub MovesNoLater : Table → List ℕ → ℕ → Type 0
MovesNoLater t p k = (x c : ℕ) (q : List ℕ) → IsMove p x c q → plies c (t.dist q) ≤ k

-- V6, by which distances are the least: at value 0 the distance is 0; a positive board that is not ended has the least
-- number of plies that a move takes which gains its value; a negative one has the greatest that a move takes; and the plan of a
-- positive board captures or leads to a smaller distance.
pub record DistancesAreLeast (t : Table) (p : List ℕ) : Type 0 where
  pub even : t.value p ≡ pos 0 → t.dist p ≡ 0
  pub won : (IsEnded p → ⊥) → pos 0 <ℤ t.value p → GainsIn t p (t.dist p) × GainsNoSooner t p (t.dist p)
  pub lost : (IsEnded p → ⊥) → t.value p <ℤ pos 0 → MovesIn t p (t.dist p) × MovesNoLater t p (t.dist p)
  pub winning : pos 0 <ℤ t.value p → (x c : ℕ) (q : List ℕ) → t.plan p ≡ Some x → IsMove p x c q → (0 < c) ⊎ (t.dist q < t.dist p)

-- all these rules, at one board, with what V6 asks
pub record IsRightBy (Asked : Table → List ℕ → Type 0) (t : Table) (p : List ℕ) : Type 0 where
  pub in_range : InRange t p
  pub ends : EndIsRight t p
  pub has_plan : HasPlan t p
  pub no_more : NoMoveGainsMore t p
  pub plan_gains : PlanGains t p
  pub distances : Asked t p

-- by the rules in force
abbrev pub IsRight : Table → List ℕ → Type 0
IsRight t p = IsRightBy DistancesAreLeast t p
