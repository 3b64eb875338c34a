-- The first board of a level that breaks a rule, and the first rule that it breaks.
use Rattle.std.specs.Prelude.{◌≡◌, ℕ, ◌<◌, ◌≤◌, List, sum, Option, MatchOption}
use Rattle.awari_board.specs.Rules.{IsBoard}
use Rattle.awari_rank.specs.Rank.{rank_of}
use Rattle.awari_table.specs.Certificate.{Table, InRange, EndIsRight, HasPlan, NoMoveGainsMore, PlanGains, IsRightBy}
use Rattle.awari_verify.specs.declared.rules.Rule.{Rule}
use Rattle.awari_verify.specs.declared.search.Refusal.{Refusal}
use Rattle.awari_verify.specs.declared.rules.Rule.TheVariants.{V1, V2, V3, V4, V5, V6, V7}

-- the board keeps the rules before this one, and breaks this one
abbrev pub BreaksFirst : (Table → List ℕ → Type 0) → Table → List ℕ → Rule → Type 0
BreaksFirst Asked t p V1 = InRange t p → ⊥
BreaksFirst Asked t p V2 = InRange t p × (EndIsRight t p → ⊥)
BreaksFirst Asked t p V3 = InRange t p × EndIsRight t p × (HasPlan t p → ⊥)
BreaksFirst Asked t p V4 = InRange t p × EndIsRight t p × HasPlan t p × (NoMoveGainsMore t p → ⊥)
BreaksFirst Asked t p V5 = InRange t p × EndIsRight t p × HasPlan t p × NoMoveGainsMore t p × (PlanGains t p → ⊥)
BreaksFirst Asked t p V6 = InRange t p × EndIsRight t p × HasPlan t p × NoMoveGainsMore t p × PlanGains t p × (Asked t p → ⊥)
BreaksFirst Asked t p V7 = ⊥

-- the boards of the level are right, from one rank up to another
abbrev pub RightBetween : (Table → List ℕ → Type 0) → Table → ℕ → ℕ → ℕ → Type 0
RightBetween Asked t level low high = (p : List ℕ) → IsBoard p → sum p ≡ level → low ≤ rank_of p → rank_of p < high → IsRightBy Asked t p

-- a board of the level with this rank breaks this rule first
pub record IsBreach (Asked : Table → List ℕ → Type 0) (t : Table) (level rank : ℕ) (rule : Rule) : Type 0 where
  pub board : List ℕ
  pub is_board : IsBoard board
  pub stones : sum board ≡ level
  pub ranked : rank_of board ≡ rank
  pub breaks : BreaksFirst Asked t board rule

-- Of the boards from rank low up to rank high, the one of this rank is the first that breaks a rule, and this is the first rule
-- that it breaks.
pub record IsRefusal (Asked : Table → List ℕ → Type 0) (t : Table) (level low high rank : ℕ) (rule : Rule) : Type 0 where
  pub above : low ≤ rank
  pub below : rank < high
  pub before : RightBetween Asked t level low rank
  pub breach : IsBreach Asked t level rank rule

-- the first refusal of these boards, none if all are right
abbrev pub IsFirst : (Table → List ℕ → Type 0) → Table → ℕ → ℕ → ℕ → Option Refusal → Type 0
IsFirst Asked t level low high first = MatchOption first (RightBetween Asked t level low high) (λ r. IsRefusal Asked t level low high r.rank r.rule)
