use Rattle.awari_segments.proofs.Joining.{signed_stays}
use Rattle.awari_segments.proofs.by_distance.ByDistanceFreshSet.depend_on_their_cells.Goals as goal

pub returns : goal.returns
returns c = signed_stays
