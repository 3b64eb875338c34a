-- The notes that were found, by segment.
use Rattle.std.specs.Prelude.{ℕ, List}
use Rattle.awari_block.specs.declared.notes.Kind.{Kind}
use Rattle.awari_block.specs.declared.notes.Kind.TheVariants.{Won, Lost}
use Rattle.awari_segments.specs.declared.rows.Row.{Row}

-- the notes of the row that are of this kind, by block
abbrev pub lists_by : Kind → Row → List (List ℕ)
lists_by Won row = row.won
lists_by Lost row = row.lost
