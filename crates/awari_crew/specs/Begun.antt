-- What a segment is before its member's first turn. Private functions alone go by this.
use Rattle.std.specs.Prelude.{ℕ, List, ℤ}
use Rattle.awari_block.specs.Part.{Part}
use Rattle.awari_scan.specs.Scan.{IsScannedPart}

-- boards of a level, with no gain open: no note was heard, and no board is settled
abbrev pub IsBegun : (List ℕ → ℤ) → ℕ → Part → Type 0
IsBegun value n part = (first : ℕ) × (last : ℕ) × IsScannedPart value n first last part
