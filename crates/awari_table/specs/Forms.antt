-- The entries of a level, however they lie in memory.
use Rattle.std.specs.Prelude.{List}
use Rattle.awari_table.specs.Columns.{FitsColumns}
use Rattle.awari_table.specs.declared.images.Entry.{Entry}
use Rattle.awari_table.specs.declared.images.Form.{Form}
use Rattle.awari_table.specs.declared.images.Form.TheVariants.{Whole, Split}

abbrev pub entries_in : Form → List Entry
entries_in (Whole entries) = entries.items
entries_in (Split columns) = columns

-- an entry that may be put at the end: any, but in columns only one that they can hold
abbrev pub Takes : Form → Entry → Type 0
Takes (Whole items) entry = Unit {0}
Takes (Split columns) entry = FitsColumns entry
