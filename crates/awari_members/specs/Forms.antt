-- In which form a line is asked for.
use Rattle.std.specs.Prelude.{Bool, true, false}
use Rattle.awari_members.specs.declared.forms.Form.{Form}
use Rattle.awari_members.specs.declared.forms.Form.TheVariants.{Text, Csv, Json}

-- an object if JSON is asked for, even beside CSV
abbrev pub form_of : Bool → Bool → Form
form_of true csv = Json
form_of false true = Csv
form_of false false = Text
