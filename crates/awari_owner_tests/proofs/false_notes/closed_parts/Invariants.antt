use Rattle.std.proofs.Common.{◌≡◌, ◌<◌, ℕ, length}
use Rattle.awari_owner.specs.Owners.{IsShare}
use Rattle.awari_heard.specs.Level.{part_at}
use Rattle.awari_owner_tests.proofs.false_notes.closed_parts.Given as goal

abbrev pub invariant-loop-owner : goal.invariant-loop-owner
invariant-loop-owner g l = record {
  count : length l.parts.items ≡ l.owner;
  shares : (k : ℕ) → k < l.owner → IsShare (length l.shelf) l.owners k (part_at l.parts.items k);
}
