use Rattle.std.proofs.Common.{◌≡◌, ℕ, ◌<◌}
use Rattle.awari_lines.specs.Rings.{IsOther, owners_of}
use Rattle.awari_phase.specs.Owners.{HasTaken, Kept}
use Rattle.awari_phase.proofs.owners.Owner.take_each.Given as goal

abbrev pub invariant-loop-place : goal.invariant-loop-place
invariant-loop-place l = record {
  kept : Kept l.fn.self l.self;
  owners : l.owners ≡ owners_of l.self.ends;
  took : (j : ℕ) → j < l.place → IsOther l.fn.self.ends j → HasTaken l.fn.self l.self j;
}
