-- Which fault is due.
use Rattle.std.proofs.Common.{◌≡◌, ℕ, List, refl, arith}
use Rattle.awari_board.specs.Rules.{IsLegal}
use Rattle.awari_board.specs.MoveFault.{IsDue}
use Rattle.awari_board.specs.declared.moves.MoveFault.{MoveFault}
use Rattle.awari_board.specs.declared.moves.MoveFault.TheVariants.{NoPit, Ended, EmptyPit, MustFeed}

-- no fault is due where the move is legal
pub none_due : (board : List ℕ) (x : ℕ) (fault : MoveFault) → IsDue board x fault → IsLegal board x → ⊥
none_due board x NoPit due legal = let own = legal.own in omega arith
none_due board x Ended (own, gain, end) legal = end.stuck x legal
none_due board x EmptyPit (own, going, bare) legal = let held = legal.held in omega arith
none_due board x MustFeed (own, going, held, bare, near) legal =
    let fed = legal.feeds bare in
    let short = near fed.0 fed.1 fed.2 in
    let far = fed.3 in
    omega arith

-- no two are due
pub one_due : (board : List ℕ) (x : ℕ) (fault other : MoveFault) → IsDue board x fault → IsDue board x other → fault ≡ other
one_due board x NoPit NoPit a b = refl
one_due board x NoPit Ended a b = let own = b.0 in absurd (omega arith)
one_due board x NoPit EmptyPit a b = let own = b.0 in absurd (omega arith)
one_due board x NoPit MustFeed a b = let own = b.0 in absurd (omega arith)
one_due board x Ended NoPit a b = let own = a.0 in absurd (omega arith)
one_due board x Ended Ended a b = refl
one_due board x Ended EmptyPit (own, gain, end) (_, (y, legal), _) = absurd (end.stuck y legal)
one_due board x Ended MustFeed (own, gain, end) (_, (y, legal), _, _, _) = absurd (end.stuck y legal)
one_due board x EmptyPit NoPit a b = let own = a.0 in absurd (omega arith)
one_due board x EmptyPit Ended (_, (y, legal), _) (own, gain, end) = absurd (end.stuck y legal)
one_due board x EmptyPit EmptyPit a b = refl
one_due board x EmptyPit MustFeed (_, _, bare) (_, _, held, _, _) = absurd (omega arith)
one_due board x MustFeed NoPit a b = let own = a.0 in absurd (omega arith)
one_due board x MustFeed Ended (_, (y, legal), _, _, _) (own, gain, end) = absurd (end.stuck y legal)
one_due board x MustFeed EmptyPit (_, _, held, _, _) (_, _, bare) = absurd (omega arith)
one_due board x MustFeed MustFeed a b = refl
