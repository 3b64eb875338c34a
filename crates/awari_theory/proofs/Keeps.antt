-- Who follows the plans gets at least the value.
use Rattle.std.proofs.Common.{◌≡◌, ℕ, ◌<◌, ◌≤◌, inl, inr, Bool, true, false, List, [], ◌∷◌, sum, ℤ, pos, neg_ℤ, ◌+ℤ◌, ◌≤ℤ◌, Some, refl, sym, subst, arith}
use Rattle.std.proofs.lemmas.Int.{ints}
use Rattle.awari_board.specs.Rules.{IsBoard, IsLegal, captured, next_board}
use Rattle.awari_game.specs.Plays.{Standing, start, after, signed, IsPlay, IsOutcome, Follows}
use Rattle.awari_table.specs.Certificate.{Table}
use Rattle.awari_theory.specs.Older.{IsCertificate}
use Rattle.awari_theory.specs.Secures.{Secures}
use Rattle.awari_theory.proofs.Sides.{seen, own, Holds, IsPly, holds_step}
use Rattle.awari_theory.proofs.Moves.{stones_kept, move_of}
use Rattle.awari_board.proofs.Keeping.{IsBoard-next}

-- a board that the certificate speaks of
pub record IsCovered (levels : ℕ) (p : List ℕ) : Type 0 where
  pub board : IsBoard p
  pub stones : sum p < levels

pub covered_next : (levels : ℕ) → (p : List ℕ) (x : ℕ) → IsCovered levels p → IsLegal p x → IsCovered levels (next_board p x)
covered_next levels p x h legal =
    let kept = stones_kept p x _ _ h.board (move_of p x legal) in
    let low = h.stones in
    record { board = IsBoard-next p x _ _ h.board (move_of p x legal); stones = omega arith }

-- the ply of a legal pit, by the rules of the certificate
pub ply_of : (t : Table) (levels limit : ℕ) → IsCertificate t levels limit → (first : Bool) (s : Standing) (x : ℕ) → IsCovered levels s.board → IsLegal s.board x
    → (s.first_moves ≡ first → t.plan s.board ≡ Some x)
    → IsPly first s.first_moves (t.value s.board) (t.value (next_board s.board x)) (captured s.board x) (t.dist s.board) (t.dist (next_board s.board x)) limit
ply_of t levels limit cert first s x h legal follows =
    let p = s.board in
    let move = move_of p x legal in
    let next = covered_next levels p x h legal in
    let right = cert.right p h.board h.stones in
    record {
      near = cert.limited (next_board p x) next.board next.stones;
      no_more = right.no_more x _ _ move;
      gains = λ mine. right.plan_gains x _ _ (follows mine) move;
      winning = λ mine good. right.distances.winning good x _ _ (follows mine) move;
      losing = λ bad none. right.distances.losing bad x _ (record { legal = legal; captures = sym none; leaves = refl });
    }

pub record Keeps (t : Table) (levels limit : ℕ) (first : Bool) (w : ℤ) (s : Standing) : Type 0 where
  pub covered : IsCovered levels s.board
  pub holds : Holds first s.first_moves w s.running (t.value s.board) s.quiet (t.dist s.board) limit

pub keeps_after : (t : Table) (levels limit : ℕ) → IsCertificate t levels limit → (first : Bool) (w : ℤ) (s : Standing) (x : ℕ) → IsLegal s.board x
    → (s.first_moves ≡ first → t.plan s.board ≡ Some x) → Keeps t levels limit first w s → Keeps t levels limit first w (after s x)
keeps_after t levels limit cert first w s x legal follows k =
    record {
      covered = covered_next levels s.board x k.covered legal;
      holds = holds_step first s.first_moves w s.running _ _ s.quiet _ _ _ limit (ply_of t levels limit cert first s x k.covered legal follows) k.holds;
    }

pub keeps_play : (t : Table) (levels limit : ℕ) → IsCertificate t levels limit → (first : Bool) (w : ℤ) (xs : List ℕ) (from s : Standing)
    → IsPlay from xs s → Follows t.plan first from xs → Keeps t levels limit first w from → Keeps t levels limit first w s
keeps_play t levels limit cert first w [] from s play follows k = subst (Keeps t levels limit first w) (sym play) k
keeps_play t levels limit cert first w (x ∷ xs) from s play follows k =
    keeps_play t levels limit cert first w xs (after from x) s play.1 follows.1 (keeps_after t levels limit cert first w from x play.0 follows.0 k)

-- what the side `first` sees of an outcome, from what it keeps
ends_well : (first moves : Bool) (w r g o : ℤ) → w ≤ℤ (seen first r +ℤ own first moves g) → o ≡ signed moves r g → w ≤ℤ seen first o
ends_well true true w r g o h e = omega (arith, ints)
ends_well true false w r g o h e = omega (arith, ints)
ends_well false true w r g o h e = omega (arith, ints)
ends_well false false w r g o h e = omega (arith, ints)

outcome_kept : (t : Table) (levels limit most : ℕ) → IsCertificate t levels limit → limit ≤ most → (first : Bool) (w : ℤ) (s : Standing) (o : ℤ)
    → IsOutcome most s o → Keeps t levels limit first w s → w ≤ℤ seen first o
outcome_kept t levels limit most cert more first w s o (inl over) k =
    let is = ((cert.right s.board k.covered.board k.covered.stones).ends over.0 over.1).0 in
    ends_well first s.first_moves w s.running over.0 o (subst (λ g. w ≤ℤ (seen first s.running +ℤ own first s.first_moves g)) is k.holds.lower) over.2
outcome_kept t levels limit most cert more first w s o (inr long) k =
    elim k.holds.still [
      | inl safe ↦ subst (λ z. w ≤ℤ seen first z) (sym long.2) safe
      | inr good ↦ absurd (omega (arith, good.1, long.1))
    ]

good_start : (first : Bool) (v : ℤ) (d limit : ℕ) → d ≤ limit → Holds first true (seen first v) (pos 0) v 0 d limit
good_start true v d limit h = record { lower = omega (arith, ints); still = grind (arith, ints) }
good_start false v d limit h = record { lower = omega (arith, ints); still = grind (arith, ints) }

secured : (t : Table) (levels limit : ℕ) → IsCertificate t levels limit → (p : List ℕ) → IsCovered levels p → (first : Bool)
    (most : ℕ) (xs : List ℕ) (s : Standing) (o : ℤ) → limit ≤ most → IsPlay (start p) xs s → IsOutcome most s o → Follows t.plan first (start p) xs
    → seen first (t.value p) ≤ℤ seen first o
secured t levels limit cert p h first most xs s o more play out follows =
    outcome_kept t levels limit most cert more first _ s o out
    (keeps_play t levels limit cert first _ xs (start p) s play follows
    (record { covered = h; holds = good_start first (t.value p) (t.dist p) limit (cert.limited p h.board h.stones) }))

unseen : (a b : ℤ) → neg_ℤ a ≤ℤ neg_ℤ b → b ≤ℤ a
unseen a b h = omega (arith, ints)

pub secures : (t : Table) (levels limit : ℕ) → IsCertificate t levels limit → (p : List ℕ) → IsBoard p → sum p < levels → Secures t limit p
secures t levels limit cert p board stones =
    λ most xs s o more play out.
    let h : IsCovered levels p = record { board = board; stones = stones } in (
      λ follows. secured t levels limit cert p h true most xs s o more play out follows,
      λ follows. unseen _ _ (secured t levels limit cert p h false most xs s o more play out follows),
    )
