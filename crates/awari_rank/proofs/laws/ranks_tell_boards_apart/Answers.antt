use Rattle.awari_rank.proofs.Ranking.{rank_fixes}
use Rattle.awari_rank.proofs.laws.ranks_tell_boards_apart.Goals as goal

pub returns : goal.returns
returns c b d board_b board_d = rank_fixes b d board_b.pits board_d.pits
