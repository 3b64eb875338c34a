-- How soon the side with the positive value gets there.
use Rattle.std.proofs.Common.{◌≡◌, ◌≢◌, ℕ, ◌+◌, ◌<◌, ◌≤◌, ◌⊎◌, inl, inr, Bool, true, false, not, if◌then◌else◌, ◌==◌, List, [], ◌∷◌, length, sum, ℤ, pos, ◌<ℤ◌, Some, refl, sym, ap, subst, arith}
use Rattle.std.proofs.lemmas.Int.{ints}
use Rattle.std.proofs.lemmas.Bool.Decides.{nat_tests}
use Rattle.awari_board.specs.Rules.{IsBoard, IsEnded, IsLegal, captured, next_board}
use Rattle.awari_game.specs.Plays.{Standing, start, after, IsPlay, Follows}
use Rattle.awari_table.specs.Certificate.{Table}
use Rattle.awari_theory.specs.Older.{IsCertificate}
use Rattle.awari_theory.specs.Secures.{Soon}
use Rattle.awari_theory.proofs.Sides.{own, IsPly, comes_nearer, quiet_more, quiet_none}
use Rattle.awari_theory.proofs.Keeps.{IsCovered, covered_next, ply_of}

quiet_step : (c n : ℕ) → (if c == 0 then n + 1 else 0) ≤ n + 1
quiet_step c n = grind (arith, nat_tests)

-- no play has more plies without a capture than plies
quiet_most : (xs : List ℕ) (from s : Standing) → IsPlay from xs s → s.quiet ≤ from.quiet + length xs
quiet_most [] from s play = omega (arith, ap (λ (z : Standing). z.quiet) play)
quiet_most (x ∷ xs) from s play =
    omega (arith, quiet_most xs (after from x) s play.1, quiet_step (captured from.board x) from.quiet)

-- where all plies of a play are without a capture, so is the first
first_quiet : (x : ℕ) (xs : List ℕ) (from s : Standing) → IsPlay (after from x) xs s → s.quiet ≡ from.quiet + length (x ∷ xs) → captured from.board x ≡ 0
first_quiet x xs from s play all =
    let most = quiet_most xs (after from x) s play in
    let capture : 0 < captured from.board x → (if captured from.board x == 0 then from.quiet + 1 else 0) ≡ 0 = quiet_none (captured from.board x) from.quiet in
    grind arith

-- on a board that is good for the follower the next is good for it, where nothing is captured
stays_good : (first moves : Bool) (v v' : ℤ) (d d' limit : ℕ) → IsPly first moves v v' 0 d d' limit → pos 0 <ℤ own first moves v → pos 0 <ℤ own first (not moves) v'
stays_good true true v v' d d' limit h k = omega (arith, ints, h.gains refl)
stays_good true false v v' d d' limit h k = omega (arith, ints)
stays_good false true v v' d d' limit h k = omega (arith, ints)
stays_good false false v v' d d' limit h k = omega (arith, ints, h.gains refl)

-- what the follower has: a covered board that is good for it
pub record IsGood (t : Table) (levels : ℕ) (first : Bool) (s : Standing) : Type 0 where
  pub covered : IsCovered levels s.board
  pub good : pos 0 <ℤ own first s.first_moves (t.value s.board)

good_after : (t : Table) (levels limit : ℕ) → IsCertificate t levels limit → (first : Bool) (s : Standing) (x : ℕ) → IsLegal s.board x
    → (s.first_moves ≡ first → t.plan s.board ≡ Some x) → captured s.board x ≡ 0 → IsGood t levels first s
    → IsGood t levels first (after s x) × (t.dist (next_board s.board x) < t.dist s.board)
good_after t levels limit cert first s x legal follows none h =
    let ply = subst (λ c. IsPly first s.first_moves (t.value s.board) (t.value (next_board s.board x)) c (t.dist s.board) (t.dist (next_board s.board x)) limit) none
    (ply_of t levels limit cert first s x h.covered legal follows) in (
      record { covered = covered_next levels s.board x h.covered legal; good = stays_good first s.first_moves _ _ _ _ limit ply h.good },
      comes_nearer first s.first_moves _ _ _ _ limit ply h.good,
    )

nears : (t : Table) (levels limit : ℕ) → IsCertificate t levels limit → (first : Bool) (xs : List ℕ) (from s : Standing)
    → IsPlay from xs s → s.quiet ≡ from.quiet + length xs → Follows t.plan first from xs → IsGood t levels first from
    → IsGood t levels first s × (length xs + t.dist s.board ≤ t.dist from.board)
nears t levels limit cert first [] from s play all follows h =
    (subst (IsGood t levels first) (sym play) h, omega (arith, ap (λ (z : Standing). t.dist z.board) play))
nears t levels limit cert first (x ∷ xs) from s play all follows h =
    let none = first_quiet x xs from s play.1 all in
    let next = good_after t levels limit cert first from x play.0 follows.0 none h in
    let rest = nears t levels limit cert first xs (after from x) s play.1 (omega (arith, quiet_more (captured from.board x) from.quiet none)) follows.1 next.0 in
    (rest.0, omega (arith, rest.1, next.1))

not_even : (first moves : Bool) (v : ℤ) → pos 0 <ℤ own first moves v → v ≢ pos 0
not_even true true v h = omega (arith, ints)
not_even true false v h = omega (arith, ints)
not_even false true v h = omega (arith, ints)
not_even false false v h = omega (arith, ints)

-- a good board at distance 0 is ended
ended_at : (t : Table) (levels limit : ℕ) → IsCertificate t levels limit → (first : Bool) (s : Standing) → IsGood t levels first s → t.dist s.board ≡ 0 → IsEnded s.board
ended_at t levels limit cert first s h far =
    λ x legal.
    let some = (cert.right s.board h.covered.board h.covered.stones).distances.uneven (λ ended. ended x legal) (not_even first s.first_moves _ h.good) in
    omega arith

good_from : (first : Bool) (v : ℤ) → ((first ≡ true) × (pos 0 <ℤ v)) ⊎ ((first ≡ false) × (v <ℤ pos 0)) → pos 0 <ℤ own first true v
good_from true v (inl h) = h.1
good_from true v (inr h) = absurd (cc h.0)
good_from false v (inl h) = absurd (cc h.0)
good_from false v (inr h) = let k = h.1 in omega (arith, ints)

pub soon : (t : Table) (levels limit : ℕ) → IsCertificate t levels limit → (p : List ℕ) → IsBoard p → sum p < levels → Soon t p
soon t levels limit cert p board stones =
    λ first xs s side play all follows.
    let good : IsGood t levels first (start p) = record { covered = record { board = board; stones = stones }; good = good_from first (t.value p) side } in
    let end = nears t levels limit cert first xs (start p) s play (omega arith) follows good in
    let within = end.1 in
    (omega arith, λ all_plies. ended_at t levels limit cert first s end.0 (omega arith))
