-- Why a board's entry is not answered.
use Rattle.std.specs.Prelude.{ℕ, List, [], ◌∷◌, ◌++◌, codes}
use Rattle.awari_faults.specs.Refusals.{Words, alone, with_number}
use Rattle.std.specs.Fmt.{decimal}
use Rattle.awari_desk.specs.declared.faults.AskFault.{AskFault}
use Rattle.awari_desk.specs.declared.faults.AskFault.TheVariants.{NotYet, Gone}

-- what is told of each
abbrev pub reason_of : AskFault → Words
reason_of (NotYet levels) = with_number 74 (codes "levels") levels
reason_of Gone = alone 75

abbrev pub number_of : AskFault → ℕ
number_of fault = (reason_of fault).number

-- the line by which a service tells of it
abbrev pub line_of : AskFault → List ℕ
line_of (NotYet levels) = codes "not yet " ++ decimal levels ++ 10 ∷ []
line_of Gone = codes "gone" ++ 10 ∷ []
