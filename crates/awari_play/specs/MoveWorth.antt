-- What a legal move is worth, by what a table says of the board that it leaves.
use Rattle.std.specs.Prelude.{◌≡◌, ◌≢◌, ℕ, List, pos, ◌-ℤ◌}
use Rattle.awari_board.specs.Rules.{IsMove}
use Rattle.awari_table.specs.Certificate.{Table, plies}
use Rattle.awari_play.specs.declared.worths.MoveWorth.{MoveWorth}

abbrev pub pit_of : MoveWorth → ℕ
pit_of w = w.pit

-- The mover gains what the move captures, less the value of the board that it leaves. Where that favours a side, it takes as many
-- plies as the move does; and where it favours none, 0 stand for them.
pub record IsMoveWorth (t : Table) (p : List ℕ) (w : MoveWorth) : Type 0 where
  pub next : List ℕ
  pub move : IsMove p w.pit w.captured next
  pub gain : w.value ≡ pos w.captured -ℤ t.value next
  pub even : w.value ≡ pos 0 → w.plies ≡ 0
  pub uneven : w.value ≢ pos 0 → w.plies ≡ plies w.captured (t.dist next)

-- the same, and the pit is this one
pub record IsWorthOf (t : Table) (p : List ℕ) (x : ℕ) (w : MoveWorth) : Type 0 where
  pub pit : w.pit ≡ x
  pub worth : IsMoveWorth t p w
