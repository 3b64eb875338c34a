-- What following the plans of a table secures.
use Rattle.std.specs.Prelude.{◌≡◌, ℕ, ◌≤◌, ◌⊎◌, Bool, true, false, List, length, ℤ, pos, ◌≤ℤ◌, ◌<ℤ◌}
use Rattle.awari_board.specs.Rules.{IsEnded}
use Rattle.awari_game.specs.Plays.{Standing, start, IsPlay, IsOutcome, Follows}
use Rattle.awari_table.specs.Certificate.{Table}

-- Who follows the plans as first mover gets at least the value in every outcome, and against one who follows them as second mover no more.
abbrev pub Secures : Table → ℕ → List ℕ → Type 0
Secures t limit p =
    (most : ℕ) (xs : List ℕ) (s : Standing) (o : ℤ) → limit ≤ most → IsPlay (start p) xs s → IsOutcome most s o
    → (Follows t.plan true (start p) xs → t.value p ≤ℤ o) × (Follows t.plan false (start p) xs → o ≤ℤ t.value p)

-- While the side with the positive value follows, a play with no capture has at most as many plies as the distance, and a play of exactly that many ends.
abbrev pub Soon : Table → List ℕ → Type 0
Soon t p =
    (first : Bool) (xs : List ℕ) (s : Standing)
    → ((first ≡ true) × (pos 0 <ℤ t.value p)) ⊎ ((first ≡ false) × (t.value p <ℤ pos 0))
    → IsPlay (start p) xs s → s.quiet ≡ length xs → Follows t.plan first (start p) xs
    → (length xs ≤ t.dist p) × (length xs ≡ t.dist p → IsEnded s.board)

-- If both follow the plans, the play comes to an outcome, and it is the value. A yes does not use this.
abbrev pub Comes : Table → ℕ → List ℕ → Type 0
Comes t limit p =
    (most : ℕ)
    → limit ≤ most
    → (xs : List ℕ) × (s : Standing) × IsPlay (start p) xs s × IsOutcome most s (t.value p) × Follows t.plan true (start p) xs × Follows t.plan false (start p) xs
