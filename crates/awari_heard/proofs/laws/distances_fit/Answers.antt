use Rattle.std.proofs.lemmas.List.Elements.{All-from_get_or}
use Rattle.awari_heard.specs.Level.{DistancesFit, NotesFit, no_part}
use Rattle.awari_heard.proofs.Distances.{distances_fit, notes_fit}
use Rattle.awari_heard.proofs.laws.distances_fit.Goals as goal

pub returns-clause-settled : goal.returns-clause-settled
returns-clause-settled c value level parts whole few told = All-from_get_or DistancesFit parts no_part (distances_fit value level parts whole few told)

pub returns-clause-noted : goal.returns-clause-noted
returns-clause-noted c value level parts whole few told = All-from_get_or NotesFit parts no_part (notes_fit value level parts whole few told)
