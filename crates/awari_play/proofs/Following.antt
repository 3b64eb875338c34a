-- A play by the plans of both sides, a ply more at a time.
use Rattle.std.proofs.Common.{◌≡◌, ℕ, zero, suc, ◌^◌, ◌+◌, ◌*◌, ◌-◌, ◌<◌, ◌≤◌, ◌==◌, if◌then◌else◌, min, Bool, true, false, List, [], ◌∷◌, ◌++◌, length, sum, take, ℤ, Option, Some, sym, ap, ◌∙◌, subst, arith, inl, inr, length-append}
use Rattle.std.proofs.lemmas.Bool.{cases_lt}
use Rattle.std.proofs.lemmas.List.{take-append-le, take_all}
use Rattle.awari_board.specs.Rules.{IsBoard, IsLegal, captured, next_board}
use Rattle.awari_game.specs.Plays.{Standing, start, after, IsPlay, IsOutcome, Follows}
use Rattle.awari_game.specs.Shown.{greatest_u64, IsShown, Shows}
use Rattle.awari_table.specs.declared.images.Image.{Image}
use Rattle.awari_table.specs.Certificate.{Table}
use Rattle.awari_table.specs.Images.{entry_of, table_of, greatest_limit}
use Rattle.awari_table.specs.Shelves.{IsShelf}
use Rattle.awari_table.proofs.CertificateLemmas.{right_from_shelf}
use Rattle.awari_theory.specs.Secures.{Secures}
use Rattle.awari_theory.specs.Truth.{TellsTruth}
use Rattle.awari_theory.proofs.Comes.{same_number}
use Rattle.awari_theory.proofs.Moves.{stones_kept, move_of}
use Rattle.awari_theory.proofs.Sides.{quiet_none}
use Rattle.awari_theory.proofs.Truths.{TellsTruth-shelf}
use Rattle.awari_play.specs.BestLine.{IsBestLine}

-- moves lead to one standing
pub one_standing : (xs : List ℕ) (from s u : Standing) → IsPlay from xs s → IsPlay from xs u → s ≡ u
one_standing [] from s u play other = play ∙ sym other
one_standing (x ∷ xs) from s u play other = one_standing xs (after from x) s u play.1 other.1

-- what a play with one more pit is
pub one_more : (xs : List ℕ) (x : ℕ) (from s u : Standing) → IsPlay from xs s → IsPlay from (xs ++ x ∷ []) u → u ≡ after s x
one_more [] x from s u play more = more.1 ∙ ap (λ (v : Standing). after v x) (sym play)
one_more (y ∷ xs) x from s u play more = one_more xs x (after from y) s u play.1 more.1

pub follows_more : (plan : List ℕ → Option ℕ) (side : Bool) (xs : List ℕ) (x : ℕ) (from s : Standing) → IsPlay from xs s → (s.first_moves ≡ side → plan s.board ≡ Some x)
    → Follows plan side from xs → Follows plan side from (xs ++ x ∷ [])
follows_more plan side [] x from s play is follows = (subst (λ (v : Standing). v.first_moves ≡ side → plan v.board ≡ Some x) play is, tt)
follows_more plan side (y ∷ xs) x from s play is follows = (follows.0, follows_more plan side xs x (after from y) s play.1 is follows.1)

-- no shorter beginning of the play has an outcome
abbrev pub NoSooner : ℕ → List ℕ → List ℕ → Type 0
NoSooner limit board moves = (n : ℕ) (s : Standing) (o : ℤ) → n < length moves → IsPlay (start board) (take n moves) s → IsOutcome limit s o → ⊥

-- Both sides have followed the plans so far, and no shorter beginning had an outcome.
pub record IsUnderWay (t : Table) (limit : ℕ) (board : List ℕ) (seen : Standing) (moves : List ℕ) : Type 0 where
  pub shows : Shows seen board moves
  pub first : Follows t.plan true (start board) moves
  pub second : Follows t.plan false (start board) moves
  pub no_sooner : NoSooner limit board moves

-- nothing that is seen so has an outcome
abbrev pub HasNone : ℕ → Standing → Type 0
HasNone limit seen = (s : Standing) (o : ℤ) → IsShown seen s → IsOutcome limit s o → ⊥

no_sooner-more : (limit : ℕ) (board moves : List ℕ) (x : ℕ) (seen : Standing) → Shows seen board moves → HasNone limit seen → NoSooner limit board moves → NoSooner limit board (moves ++ x ∷ [])
no_sooner-more limit board moves x seen shows none before n s o below play out =
    let within : n ≤ length moves = let more = length-append moves (x ∷ []) in omega (arith, below, more) in
    let begins : IsPlay (start board) (take n moves) s = subst (λ xs. IsPlay (start board) xs s) (take-append-le n moves (x ∷ []) within) play in
    elim (cases_lt n (length moves)) [
      | inl lt ↦ before n s o lt begins out
      | inr ge ↦
          let whole : IsPlay (start board) moves s = subst (λ xs. IsPlay (start board) xs s) (take_all n moves ge) begins in
          let same : shows.standing ≡ s = one_standing moves (start board) shows.standing s shows.play whole in
          none s o (subst (λ (v : Standing). IsShown seen v) same shows.shown) out
    ]

-- a board that is not ended has a plan, which is legal
pub planned : (levels : List Image) (p : List ℕ) → IsShelf levels → IsBoard p → sum p < length levels → (pit : ℕ) × IsLegal p pit
    → (x : ℕ) × ((table_of levels).plan p ≡ Some x) × IsLegal p x
planned levels p shelf board low open_pit = (right_from_shelf levels shelf p board low).has_plan (λ ended. ended open_pit.0 open_pit.1)

-- what is seen after a pit more
pub seen_after : (seen later : Standing) (board moves : List ℕ) (x : ℕ) → Shows seen board moves → Shows later board (moves ++ x ∷ [])
    → (later.board ≡ next_board seen.board x) × ((s : Standing) × (seen.quiet ≡ min s.quiet greatest_u64) × (later.quiet ≡ min (if captured seen.board x == 0 then s.quiet + 1 else 0) greatest_u64))
seen_after seen later board moves x shows further =
    let is : further.standing ≡ after shows.standing x = one_more moves x (start board) shows.standing further.standing shows.play further.play in
    let there : shows.standing.board ≡ seen.board = sym shows.shown.board in (
      further.shown.board ∙ ap (λ (s : Standing). s.board) is ∙ ap (λ b. next_board b x) there,
      (
        shows.standing,
        shows.shown.quiet,
        further.shown.quiet ∙ ap (λ (s : Standing). min s.quiet greatest_u64) is ∙ ap (λ b. min (if captured b x == 0 then shows.standing.quiet + 1 else 0) greatest_u64) there,
      ),
    )

pub under_way-more : (t : Table) (limit : ℕ) (board : List ℕ) (seen later : Standing) (moves : List ℕ) (x : ℕ) → IsUnderWay t limit board seen moves → t.plan seen.board ≡ Some x
    → HasNone limit seen → Shows later board (moves ++ x ∷ []) → IsUnderWay t limit board later (moves ++ x ∷ [])
under_way-more t limit board seen later moves x before plan none shows =
    let planned : t.plan before.shows.standing.board ≡ Some x = subst (λ b. t.plan b ≡ Some x) before.shows.shown.board plan in
    record {
      shows = shows;
      first = follows_more t.plan true moves x (start board) before.shows.standing before.shows.play (λ mine. planned) before.first;
      second = follows_more t.plan false moves x (start board) before.shows.standing before.shows.play (λ mine. planned) before.second;
      no_sooner = no_sooner-more limit board moves x seen before.shows none before.no_sooner;
    }

-- The plies that can be left until an outcome: each capture leaves fewer stones, and between captures there are no more than limit + 1.
abbrev pub left_of : ℕ → Standing → ℕ
left_of limit seen = sum seen.board * (limit + 2) + (limit + 1 - seen.quiet)

nearer : (limit left taken quiet seen later : ℕ) → seen ≤ limit → limit < 2 ^ 32 → seen ≡ min quiet greatest_u64
    → later ≡ min (if taken == 0 then quiet + 1 else 0) greatest_u64
    → left * (limit + 2) + (limit + 1 - later) < (left + taken) * (limit + 2) + (limit + 1 - seen)
nearer limit left zero quiet seen later low small is goes =
    let all : seen ≡ quiet = omega (arith, low, small, is) in
    let next : later ≡ quiet + 1 = omega (arith, low, small, is, goes) in
    omega (arith, low, all, next)
nearer limit left (suc c) quiet seen later low small is goes =
    let none = quiet_none (suc c) quiet (omega arith) in
    let anew : later ≡ 0 = omega (arith, goes, none) in
    omega (arith, low, anew)

pub left_of-more : (limit : ℕ) (seen later : Standing) (board moves : List ℕ) (x : ℕ) → IsBoard seen.board → IsLegal seen.board x → seen.quiet ≤ limit → limit < 2 ^ 32
    → Shows seen board moves → Shows later board (moves ++ x ∷ []) → left_of limit later < left_of limit seen
left_of-more limit seen later board moves x is_board legal low small shows further =
    let (there, (s, quiet, next)) = seen_after seen later board moves x shows further in
    let kept = stones_kept seen.board x _ _ is_board (move_of seen.board x legal) in
    let fewer = nearer limit (sum (next_board seen.board x)) (captured seen.board x) s.quiet seen.quiet later.quiet low small quiet next in
    subst (λ b. sum b * (limit + 2) + (limit + 1 - later.quiet) < left_of limit seen) (sym there)
    (subst (λ n. sum (next_board seen.board x) * (limit + 2) + (limit + 1 - later.quiet) < n * (limit + 2) + (limit + 1 - seen.quiet)) kept fewer)

-- an outcome of a play under way makes it the line
pub best_line-end : (t : Table) (limit : ℕ) (board : List ℕ) (seen : Standing) (moves : List ℕ) (o : ℤ) → IsUnderWay t limit board seen moves
    → ((s : Standing) → IsShown seen s → IsOutcome limit s o) → IsBestLine t limit board moves o
best_line-end t limit board seen moves o way out =
    record {
      last = way.shows.standing;
      play = way.shows.play;
      first_follows = way.first;
      second_follows = way.second;
      ends = out way.shows.standing way.shows.shown;
      no_sooner = way.no_sooner;
    }

secured : (levels : List Image) (board : List ℕ) → IsShelf levels → IsBoard board → sum board < length levels → Secures (table_of levels) (greatest_limit (take (sum board + 1) levels)) board
unfolding TellsTruth
secured levels board shelf is low = (TellsTruth-shelf levels shelf board is low).secures

-- the line of a shelf comes to the value
pub best_line-value : (levels : List Image) (limit : ℕ) (board moves : List ℕ) (o : ℤ) → IsShelf levels → IsBoard board → sum board < length levels
    → IsBestLine (table_of levels) limit board moves o → greatest_limit (take (sum board + 1) levels) ≤ limit → o ≡ (entry_of levels board).value
best_line-value levels limit board moves o shelf is low line within =
    let both = secured levels board shelf is low limit moves line.last o within line.play line.ends in
    same_number (entry_of levels board).value o (both.0 line.first_follows) (both.1 line.second_follows)

-- a move leaves no more stones
pub known_more : (levels : ℕ) (board moves : List ℕ) (seen later : Standing) (x : ℕ) → Shows seen board moves → Shows later board (moves ++ x ∷ []) → IsBoard seen.board → IsLegal seen.board x → sum seen.board < levels
    → sum later.board < levels
known_more levels board moves seen later x shows further whole legal low =
    let kept = stones_kept seen.board x _ _ whole (move_of seen.board x legal) in
    let left : sum later.board ≡ sum (next_board seen.board x) = ap sum (seen_after seen later board moves x shows further).0 in
    omega (arith, low, kept, left)

-- the first board of a play
pub known_start : (levels : ℕ) (board : List ℕ) (seen : Standing) → Shows seen board [] → sum board < levels → sum seen.board < levels
known_start levels board seen shows low =
    let there : seen.board ≡ board = shows.shown.board ∙ ap (λ (s : Standing). s.board) shows.play in
    subst (λ b. sum b < levels) (sym there) low
