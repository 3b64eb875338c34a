-- What a quiet level says of its boards once all gains are closed.
use Rattle.std.specs.Prelude.{◌≡◌, ℕ, ◌<◌, ◌≤◌, ◌⊎◌, List, ℤ, pos, neg_ℤ, ◌-ℤ◌, ◌≤ℤ◌, ◌<ℤ◌, Some}
use Rattle.awari_board.specs.Rules.{IsMove, IsEnd, IsEnded}
use Rattle.awari_table.specs.Certificate.{plies}
use Rattle.awari_block.specs.Notes.{IsQuietMove, Has, gain_by}
use Rattle.awari_block.specs.Tally.{Status, Ended, Open, Settled, Cell, IsTally}
use Rattle.awari_block.specs.Part.{settled_by}
use Rattle.awari_block.specs.declared.notes.Note.{Note}

-- what the image has of a board: value and distance where it is settled, and else 0 and 0
abbrev pub value_by : Status → ℤ
value_by (Ended gain) = pos 0
value_by (Open best plans far) = pos 0
value_by (Settled value dist plans) = value

abbrev pub dist_by : Status → ℕ
dist_by (Ended gain) = 0
dist_by (Open best plans far) = 0
dist_by (Settled value dist plans) = dist

-- All notes of the settled boards that the quiet moves of p lead to were heard at p, and no others, at gain 1.
pub record IsQuietAt (value : List ℕ → ℤ) (cell : List ℕ → Cell) (p : List ℕ) (notes : List Note) : Type 0 where
  pub tallied : (w : ℕ) × IsTally value (cell p) p notes 1 w
  pub true_notes : (m : Note) → Has notes m
      → (q : List ℕ) × (v : ℤ) × (d : ℕ) × IsQuietMove p m.pit q × (settled_by (cell q).status ≡ Some (v, d)) × (gain_by m.kind m.gain ≡ neg_ℤ v) × (m.dist ≡ d)
  pub all_notes : (x : ℕ) (q : List ℕ) (v : ℤ) (d : ℕ) → IsQuietMove p x q → settled_by (cell q).status ≡ Some (v, d)
      → (m : Note) × Has notes m × (m.pit ≡ x) × (gain_by m.kind m.gain ≡ neg_ℤ v) × (m.dist ≡ d)

-- what a move gains, where boards of fewer stones have this value
abbrev pub gains : (List ℕ → ℤ) → (List ℕ → Cell) → ℕ → List ℕ → ℤ → Type 0
gains value cell c q v = ((0 < c) × (v ≡ (pos c -ℤ value q))) ⊎ ((c ≡ 0) × (v ≡ neg_ℤ (value_by (cell q).status)))

-- The rules of an image at p, the plan being a move that there is.
pub record IsRightAt (value : List ℕ → ℤ) (cell : List ℕ → Cell) (p : List ℕ) : Type 0 where
  pub ends : (g : ℤ) → IsEnd p g → (value_by (cell p).status ≡ g) × (dist_by (cell p).status ≡ 0)
  pub no_more : (x c : ℕ) (q : List ℕ) (v : ℤ) → IsMove p x c q → gains value cell c q v → v ≤ℤ value_by (cell p).status
  pub planned : (IsEnded p → ⊥)
      → (x c : ℕ) × (q : List ℕ) × IsMove p x c q × gains value cell c q (value_by (cell p).status)
      × (pos 0 <ℤ value_by (cell p).status → (0 < c) ⊎ (dist_by (cell q).status < dist_by (cell p).status))
  pub even : value_by (cell p).status ≡ pos 0 → dist_by (cell p).status ≡ 0
  pub uneven : (IsEnded p → ⊥) → (value_by (cell p).status ≡ pos 0 → ⊥) → 1 ≤ dist_by (cell p).status
  pub losing : value_by (cell p).status <ℤ pos 0 → (x : ℕ) (q : List ℕ) → IsQuietMove p x q → dist_by (cell q).status < dist_by (cell p).status
  pub won : (IsEnded p → ⊥) → pos 0 <ℤ value_by (cell p).status
      → ((x c : ℕ) × (q : List ℕ) × IsMove p x c q × gains value cell c q (value_by (cell p).status) × (plies c (dist_by (cell q).status) ≡ dist_by (cell p).status))
      × ((x c : ℕ) (q : List ℕ) → IsMove p x c q → gains value cell c q (value_by (cell p).status) → dist_by (cell p).status ≤ plies c (dist_by (cell q).status))
  pub lost : (IsEnded p → ⊥) → value_by (cell p).status <ℤ pos 0
      → ((x c : ℕ) × (q : List ℕ) × IsMove p x c q × (plies c (dist_by (cell q).status) ≡ dist_by (cell p).status))
      × ((x c : ℕ) (q : List ℕ) → IsMove p x c q → plies c (dist_by (cell q).status) ≤ dist_by (cell p).status)
