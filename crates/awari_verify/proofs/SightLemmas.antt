-- A rule at what is seen of a board is that rule of the table.
use Rattle.std.proofs.Common.{◌≡◌, ◌↔◌, ◌⊎◌, ℕ, zero, suc, ◌<◌, ◌≤◌, List, length, get_or, Option, Some, None, IsSome, IsSomeAnd, IsNone, IfSome, All, Any, ℤ, pos, ◌-ℤ◌, ◌≤ℤ◌, ◌<ℤ◌, sym, refl, subst, inl, inr, ◌∙◌, arith}
use Rattle.std.proofs.lemmas.Bool.{false≢true, cases_lt}
use Rattle.std.proofs.lemmas.List.{get_or_default, get_or_past}
use Rattle.awari_board.specs.Rules.{IsLegal, IsMove, IsEnd}
use Rattle.awari_board.specs.Rules.{IsEnded}
use Rattle.awari_table.specs.Certificate.{Table, InRange, EndIsRight, HasPlan, NoMoveGainsMore, PlanGains, plies, GainsIn, GainsNoSooner, MovesIn, MovesNoLater, DistancesAreLeast}
use Rattle.awari_table.specs.Reached.{Reaches, gain_of}
use Rattle.awari_table.specs.declared.rules.Reached.{Reached}
use Rattle.awari_verify.specs.declared.rules.Seen.{Seen}
use Rattle.awari_verify.specs.Sights.{SeesEnd, Sees, move_at, IsNearer, KeepsRange, KeepsEnd, KeepsPlan, KeepsGain, KeepsPlanGain, GainsJustIn, KeepsWon, KeepsLost, KeepsLeast}

-- each pit is seen
abbrev pub SeesMoves : Table → List ℕ → List (Option Reached) → Type 0
SeesMoves t p moves = (x : ℕ) → x < 6 → Reaches t p x (get_or moves x None)

-- what is asked of a reached board is what is asked of the move
abbrev pub Says : Table → List ℕ → (Reached → Type 0) → (ℕ → ℕ → List ℕ → Type 0) → Type 0
Says t p P Q = (x : ℕ) (m : Reached) (q : List ℕ) → m.value ≡ t.value q → m.plies ≡ plies m.captured (t.dist q) → P m ↔ Q x m.captured q

pub range-iff : (t : Table) (p : List ℕ) (s : Seen) → Sees t p s → KeepsRange s ↔ InRange t p
range-iff t p s h = rw (← h.stones, ← h.value, ← h.plan) (λ k. k, λ k. k)

end_any : (p : List ℕ) (P : ℤ → Type 0) (o : Option ℤ) → SeesEnd p o → IfSome o P ↔ ((g : ℤ) → IsEnd p g → P g)
end_any p P None more = (λ _ g e. absurd (more e.stuck), λ _. tt)
end_any p P (Some g0) e0 = (λ k g e. subst P (e0.gains ∙ sym e.gains) k, λ k. k g0 e0)

pub end-iff : (t : Table) (p : List ℕ) (s : Seen) → Sees t p s → KeepsEnd s ↔ EndIsRight t p
end-iff t p s h =
    rw (← h.value, ← h.plan, ← h.dist) (end_any p (λ g. (s.entry.value ≡ g) × (s.entry.plan ≡ None) × (s.entry.dist ≡ 0)) s.end h.at_end)

-- what `end` answers
pub SeesEnd-end : (p : List ℕ) (o : Option ℤ) → IsNone o ↔ ((x : ℕ) × IsLegal p x) → ((g : ℤ) → (o ≡ Some g) ↔ IsEnd p g) → SeesEnd p o
SeesEnd-end p None none some = λ ended. let legal = none.0 refl in ended legal.0 legal.1
SeesEnd-end p (Some g) none some = (some g).0 refl

pub none_from_open : (p : List ℕ) (o : Option ℤ) → SeesEnd p o → (IsEnded p → ⊥) → IsNone o
none_from_open p None sees more = refl
none_from_open p (Some g) sees more = absurd (more sees.stuck)

pub open_from_none : (p : List ℕ) (o : Option ℤ) → SeesEnd p o → IsNone o → IsEnded p → ⊥
open_from_none p None sees none = sees
open_from_none p (Some g) sees none = absurd (false≢true (sym none))

legal_from_some : (t : Table) (p : List ℕ) (x : ℕ) (o : Option Reached) → Reaches t p x o → IsSome o → IsLegal p x
legal_from_some t p x None sees some = absurd (false≢true some)
legal_from_some t p x (Some m) sees some = sees.1.legal

some_from_legal : (t : Table) (p : List ℕ) (x : ℕ) (o : Option Reached) → Reaches t p x o → IsLegal p x → IsSome o
some_from_legal t p x None sees legal = absurd (sees legal)
some_from_legal t p x (Some m) sees legal = refl

plan_from_some : (t : Table) (p : List ℕ) (moves : List (Option Reached)) (plan : Option ℕ) → length moves ≡ 6 → SeesMoves t p moves → IsSome (move_at moves plan) → (x : ℕ) × (plan ≡ Some x) × IsLegal p x
plan_from_some t p moves None six sees some = absurd (false≢true some)
plan_from_some t p moves (Some x) six sees some =
    elim (cases_lt x 6) [
      | inl lt ↦ (x, refl, legal_from_some t p x (get_or moves x None) (sees x lt) some)
      | inr ge ↦ let past = get_or_past moves x None (omega arith) in absurd (false≢true (rw past at some))
    ]

some_from_plan : (t : Table) (p : List ℕ) (moves : List (Option Reached)) (plan : Option ℕ) (x : ℕ) → SeesMoves t p moves → plan ≡ Some x → IsLegal p x → IsSome (move_at moves plan)
some_from_plan t p moves plan x sees is legal = rw is (some_from_legal t p x (get_or moves x None) (sees x legal.own) legal)

pub plan-iff : (t : Table) (p : List ℕ) (s : Seen) → Sees t p s → KeepsPlan s ↔ HasPlan t p
plan-iff t p s h = rw (← h.plan) (
  λ k more. plan_from_some t p s.moves s.entry.plan h.six h.moves (k (none_from_open p s.end h.at_end more)),
  λ k none. let own = k (open_from_none p s.end h.at_end none) in some_from_plan t p s.moves s.entry.plan own.0 h.moves own.1 own.2,
)

move_any : (t : Table) (p : List ℕ) (P : Reached → Type 0) (Q : ℕ → ℕ → List ℕ → Type 0) → Says t p P Q → (x : ℕ) (o : Option Reached) → Reaches t p x o → IfSome o P ↔ ((c : ℕ) (q : List ℕ) → IsMove p x c q → Q x c q)
move_any t p P Q says x None sees = (λ _ c q move. absurd (sees move.legal), λ _. tt)
move_any t p P Q says x (Some m) sees = (
  λ k c q move.
      subst (λ (d : ℕ). Q x d q) (sees.1.captures ∙ sym move.captures)
      (subst (λ (r : List ℕ). Q x m.captured r) (sees.1.leaves ∙ sym move.leaves) ((says x m sees.0 sees.2 sees.3).0 k)),
  λ k. (says x m sees.0 sees.2 sees.3).1 (k m.captured sees.0 sees.1),
)

pub moves_any : (t : Table) (p : List ℕ) (P : Reached → Type 0) (Q : ℕ → ℕ → List ℕ → Type 0) → Says t p P Q → (moves : List (Option Reached)) → length moves ≡ 6 → SeesMoves t p moves → All (λ o. IfSome o P) moves ↔ ((x c : ℕ) (q : List ℕ) → IsMove p x c q → Q x c q)
moves_any t p P Q says moves six sees = (
  λ k x c q move. (move_any t p P Q says x (get_or moves x None) (sees x move.legal.own)).0 (k x None (let own = move.legal.own in omega arith)) c q move,
  λ k x d lt. let within : x < 6 = omega arith in rw (get_or_default moves x d None lt) ((move_any t p P Q says x (get_or moves x None) (sees x within)).1 (k x)),
)

planned_any : (t : Table) (p : List ℕ) (P : Reached → Type 0) (Q : ℕ → ℕ → List ℕ → Type 0) → Says t p P Q → (moves : List (Option Reached)) (plan : Option ℕ) → length moves ≡ 6 → SeesMoves t p moves → IfSome (move_at moves plan) P ↔ ((x c : ℕ) (q : List ℕ) → plan ≡ Some x → IsMove p x c q → Q x c q)
planned_any t p P Q says moves None six sees = (λ _ x c q is. absurd (cc), λ _. tt)
planned_any t p P Q says moves (Some y) six sees = (
  λ k x c q is move. let same : y ≡ x = cc in (move_any t p P Q says x (get_or moves x None) (sees x move.legal.own)).0 (rw same at k) c q move,
  λ k. elim (cases_lt y 6) [
    | inl lt ↦ (move_any t p P Q says y (get_or moves y None) (sees y lt)).1 (λ c q move. k y c q refl move)
    | inr ge ↦ let past = get_or_past moves y None (omega arith) in rw past tt
  ],
)

pub gain-iff : (t : Table) (p : List ℕ) (s : Seen) → Sees t p s → KeepsGain s ↔ NoMoveGainsMore t p
gain-iff t p s h =
    rw (← h.value) (moves_any t p (λ m. gain_of m ≤ℤ s.entry.value) (λ x c q. (pos c -ℤ t.value q) ≤ℤ s.entry.value) (λ x m q v d. rw v (λ k. k, λ k. k)) s.moves h.six h.moves)

pub plan_gain-iff : (t : Table) (p : List ℕ) (s : Seen) → Sees t p s → KeepsPlanGain s ↔ PlanGains t p
plan_gain-iff t p s h =
    rw (← h.value, ← h.plan) (planned_any t p (λ m. gain_of m ≡ s.entry.value) (λ x c q. (pos c -ℤ t.value q) ≡ s.entry.value) (λ x m q v d. rw v (λ k. k, λ k. k)) s.moves s.entry.plan h.six h.moves)

pub nearer-says : (t : Table) (p : List ℕ) (dist : ℕ) → Says t p (λ m. IsNearer m dist) (λ x c q. (0 < c) ⊎ (t.dist q < dist))
nearer-says t p dist x m q v d = go m.captured d
  where
    go : (c : ℕ) → m.plies ≡ plies c (t.dist q) → ((0 < c) ⊎ (m.plies ≤ dist)) ↔ ((0 < c) ⊎ (t.dist q < dist))
    go zero is = (
      λ k. elim k [ inl some ↦ inl some | inr near ↦ inr (omega (arith, is, near)) ],
      λ k. elim k [ inl some ↦ inl some | inr near ↦ inr (omega (arith, is, near)) ],
    )
    go (suc c) is = (λ k. inl (omega arith), λ k. inl (omega arith))

pub winning_any : (t : Table) (p : List ℕ) (s : Seen) → Sees t p s → IfSome (move_at s.moves s.entry.plan) (λ m. IsNearer m s.entry.dist) ↔ ((x c : ℕ) (q : List ℕ) → s.entry.plan ≡ Some x → IsMove p x c q → (0 < c) ⊎ (t.dist q < s.entry.dist))
winning_any t p s h =
    planned_any t p (λ m. IsNearer m s.entry.dist) (λ x c q. (0 < c) ⊎ (t.dist q < s.entry.dist)) (nearer-says t p s.entry.dist) s.moves s.entry.plan h.six h.moves

-- some move is seen, where there is one
moves_some : (t : Table) (p : List ℕ) (P : Reached → Type 0) (Q : ℕ → ℕ → List ℕ → Type 0) → Says t p P Q → (moves : List (Option Reached)) → length moves ≡ 6 → SeesMoves t p moves
    → Any (λ o. IsSomeAnd o P) moves ↔ ((x c : ℕ) × (q : List ℕ) × IsMove p x c q × Q x c q)
moves_some t p P Q says moves six sees = (
  λ found. let (x, o, lt, is, holds) = found in to x (omega (arith, lt)) o (sees_at x o (omega (arith, lt)) is) holds,
  λ found.
      let (x, c, q, move, holds) = found in
      let lt : x < 6 = move.legal.own in
      (x, get_or moves x None, omega arith, get_or_default moves x (get_or moves x None) None (omega arith), from x (get_or moves x None) (sees x lt) c q move holds),
)
  where
    sees_at : (x : ℕ) (o : Option Reached) → x < 6 → get_or moves x o ≡ o → Reaches t p x o
    sees_at x o lt is = subst (Reaches t p x) (sym (get_or_default moves x o None (omega arith)) ∙ is) (sees x lt)

    to : (x : ℕ) → x < 6 → (o : Option Reached) → Reaches t p x o → IsSomeAnd o P → (x c : ℕ) × (q : List ℕ) × IsMove p x c q × Q x c q
    to x lt None sees holds = absurd holds
    to x lt (Some m) sees holds = (x, m.captured, sees.0, sees.1, (says x m sees.0 sees.2 sees.3).0 holds)

    from : (x : ℕ) (o : Option Reached) → Reaches t p x o → (c : ℕ) (q : List ℕ) → IsMove p x c q → Q x c q → IsSomeAnd o P
    from x None sees c q move holds = absurd (sees move.legal)
    from x (Some m) sees c q move holds =
        (says x m sees.0 sees.2 sees.3).1
        (subst (λ (d : ℕ). Q x d sees.0) (move.captures ∙ sym sees.1.captures) (subst (λ (r : List ℕ). Q x c r) (move.leaves ∙ sym sees.1.leaves) holds))

just-says : (t : Table) (p : List ℕ) (value : ℤ) (dist : ℕ) → Says t p (GainsJustIn value dist) (λ x c q. ((pos c -ℤ t.value q) ≡ value) × (plies c (t.dist q) ≡ dist))
just-says t p value dist x m q v d = rw (v, d) (λ k. k, λ k. k)

sooner-says : (t : Table) (p : List ℕ) (value : ℤ) (dist : ℕ) → Says t p (λ m. gain_of m ≡ value → dist ≤ m.plies) (λ x c q. (pos c -ℤ t.value q) ≡ value → dist ≤ plies c (t.dist q))
sooner-says t p value dist x m q v d = rw (v, d) (λ k. k, λ k. k)

takes-says : (t : Table) (p : List ℕ) (dist : ℕ) → Says t p (λ m. m.plies ≡ dist) (λ x c q. plies c (t.dist q) ≡ dist)
takes-says t p dist x m q v d = rw d (λ k. k, λ k. k)

later-says : (t : Table) (p : List ℕ) (dist : ℕ) → Says t p (λ m. m.plies ≤ dist) (λ x c q. plies c (t.dist q) ≤ dist)
later-says t p dist x m q v d = rw d (λ k. k, λ k. k)

won_any : (t : Table) (p : List ℕ) (s : Seen) → Sees t p s → KeepsWon s ↔ ((IsEnded p → ⊥) → pos 0 <ℤ t.value p → GainsIn t p (t.dist p) × GainsNoSooner t p (t.dist p))
won_any t p s h =
    let some = moves_some t p (GainsJustIn s.entry.value s.entry.dist) _ (just-says t p s.entry.value s.entry.dist) s.moves h.six h.moves in
    let all = moves_any t p (λ m. gain_of m ≡ s.entry.value → s.entry.dist ≤ m.plies) _ (sooner-says t p s.entry.value s.entry.dist) s.moves h.six h.moves in
    rw (← h.value, ← h.dist) (
      λ k more up. let both = k (none_from_open p s.end h.at_end more) up in let (x, c, q, move, just) = some.0 both.0 in ((x, c, q, move, just.0, just.1), all.0 both.1),
      λ k none up. let both = k (open_from_none p s.end h.at_end none) up in let (x, c, q, move, gain, takes) = both.0 in (some.1 (x, c, q, move, (gain, takes)), all.1 both.1),
    )

lost_any : (t : Table) (p : List ℕ) (s : Seen) → Sees t p s → KeepsLost s ↔ ((IsEnded p → ⊥) → t.value p <ℤ pos 0 → MovesIn t p (t.dist p) × MovesNoLater t p (t.dist p))
lost_any t p s h =
    let some = moves_some t p (λ m. m.plies ≡ s.entry.dist) _ (takes-says t p s.entry.dist) s.moves h.six h.moves in
    let all = moves_any t p (λ m. m.plies ≤ s.entry.dist) _ (later-says t p s.entry.dist) s.moves h.six h.moves in
    rw (← h.value, ← h.dist) (
      λ k more down. let both = k (none_from_open p s.end h.at_end more) down in (some.0 both.0, all.0 both.1),
      λ k none down. let both = k (open_from_none p s.end h.at_end none) down in (some.1 both.0, all.1 both.1),
    )

least_from : (t : Table) (p : List ℕ) (s : Seen) → Sees t p s → KeepsLeast s → DistancesAreLeast t p
least_from t p s h k = record {
  even = rw (← h.value, ← h.dist) k.0;
  won = (won_any t p s h).0 k.1;
  lost = (lost_any t p s h).0 k.2;
  winning = rw (← h.value, ← h.plan, ← h.dist) (λ up. (winning_any t p s h).0 (k.3 up));
}

least_to : (t : Table) (p : List ℕ) (s : Seen) → Sees t p s → DistancesAreLeast t p → KeepsLeast s
least_to t p s h k =
    let winning : pos 0 <ℤ s.entry.value → (x c : ℕ) (q : List ℕ) → s.entry.plan ≡ Some x → IsMove p x c q → (0 < c) ⊎ (t.dist q < s.entry.dist) = rw (h.value, h.plan, h.dist) k.winning in (
      rw (h.value, h.dist) k.even,
      (won_any t p s h).1 k.won,
      (lost_any t p s h).1 k.lost,
      λ up. (winning_any t p s h).1 (winning up),
    )

pub least-iff : (t : Table) (p : List ℕ) (s : Seen) → Sees t p s → KeepsLeast s ↔ DistancesAreLeast t p
least-iff t p s h = (least_from t p s h, least_to t p s h)
