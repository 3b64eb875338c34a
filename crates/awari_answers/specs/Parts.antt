-- The text of a refusal by its parts. No public contract goes by these.
use Rattle.std.specs.Prelude.{ℕ, List, [], ◌∷◌, ◌++◌, codes, map}
use Rattle.std.specs.List.{flat_map}
use Rattle.awari_faults.specs.Refusals.{Words, refusal_text}
use Rattle.awari_members.specs.Members.{marked}
use Rattle.awari_members.specs.declared.forms.Form.{Form}
use Rattle.awari_members.specs.declared.forms.Form.TheVariants.{Text, Csv, Json}
use Rattle.awari_answers.specs.Refusals.{members_of, row_of}

-- the faults inside another in JSON, behind its members
abbrev pub inside_object : List Words → List ℕ
inside_object [] = []
inside_object (w ∷ inside) = codes ",\"inside\":{" ++ (marked Json [] (members_of w) ++ (inside_object inside ++ codes "}"))

abbrev pub object_of : List Words → List ℕ
object_of [] = []
object_of (w ∷ inside) = marked Json [] (members_of w) ++ inside_object inside

-- a refusal, in JSON with the request as a string
abbrev pub shown_text : Form → List ℕ → List Words → List ℕ
shown_text Text request r = codes "refused " ++ refusal_text r
shown_text Csv request r = codes "refused" ++ flat_map row_of r
shown_text Json request r = codes "{\"request\":" ++ (request ++ (codes "," ++ (object_of r ++ codes "}")))
