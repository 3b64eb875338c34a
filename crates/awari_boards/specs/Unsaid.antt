-- Why files do not say what is asked of a board, and how that is told.
use Rattle.std.specs.Prelude.{ℕ, List, [], ◌∷◌, ◌++◌, codes}
use Rattle.std.specs.Fmt.{decimal}
use Rattle.awari_faults.specs.Refusals.{refusal_text}
use Rattle.awari_folder.specs.FolderFault.{refusal_of, number_of as folder_number_of}
use Rattle.awari_boards.specs.declared.unsaid.Unsaid.{Unsaid}
use Rattle.awari_boards.specs.declared.unsaid.Unsaid.TheVariants.{NotYet, Folder}

-- the line by which a service tells of it
abbrev pub line_of : Unsaid → List ℕ
line_of (NotYet levels) = codes "not yet " ++ decimal levels ++ 10 ∷ []
line_of (Folder fault) = codes "refused " ++ refusal_text (refusal_of fault) ++ 10 ∷ []

-- its number
abbrev pub number_of : Unsaid → ℕ
number_of (NotYet levels) = 74
number_of (Folder fault) = folder_number_of fault
