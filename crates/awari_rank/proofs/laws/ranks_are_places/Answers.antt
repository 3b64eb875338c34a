use Rattle.awari_rank.proofs.Ranking.{listed_board}
use Rattle.awari_rank.proofs.laws.ranks_are_places.Goals as goal

pub returns : goal.returns
returns c b board = listed_board b board.pits
