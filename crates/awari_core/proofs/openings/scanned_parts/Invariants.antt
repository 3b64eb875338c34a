use Rattle.std.proofs.Common.{◌≡◌, ◌<◌, ℕ, get_or, length}
use Rattle.awari_heard.specs.Level.{no_part}
use Rattle.awari_owner.specs.Sound.{IsScannedOwner}
use Rattle.awari_table.specs.Images.{table_of}
use Rattle.awari_core.proofs.openings.scanned_parts.Given as goal

abbrev pub invariant-loop-owner : goal.invariant-loop-owner
invariant-loop-owner l = record {
  count : length l.parts.items ≡ l.owner;
  scanned : (k : ℕ) → k < l.owner → IsScannedOwner (table_of l.shelf).value (length l.shelf) l.owners k (get_or l.parts.items k no_part);
}
