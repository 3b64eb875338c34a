-- What the lines of a row begin with. Private functions alone go by this: no public contract does.
use Rattle.std.specs.Prelude.{List, ◌∷◌, [], Option, Some, None}
use Rattle.awari_counts.specs.Ranges.{number_at}
use Rattle.awari_facts.specs.Numbers.{column_member}
use Rattle.awari_counts.specs.Rows.{head_of}
use Rattle.awari_counts.specs.declared.rows.Placed.{Placed}
use Rattle.awari_counts.specs.declared.rows.Row.{Row}
use Rattle.awari_members.specs.Members.{Named}
use Rattle.awari_members.specs.declared.forms.Form.{Form}
use Rattle.awari_queries.specs.declared.columns.Column.{Column}

-- a number of another column, or what stands before those of one alone
abbrev pub head_in : Form → Option Placed → Column → List Named
head_in form None column = head_of form column
head_in form (Some other) column = column_member other.column (number_at other.column other.place) ∷ []

abbrev pub heads : Form → Row → List Named
heads form row = head_in form row.beside row.column
