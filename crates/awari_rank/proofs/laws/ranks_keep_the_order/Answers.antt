use Rattle.awari_rank.proofs.Order.{rank_orders}
use Rattle.awari_rank.proofs.Ranking.{rank_rises}
use Rattle.awari_rank.proofs.laws.ranks_keep_the_order.Goals as goal

pub returns : goal.returns
returns c b d board_b board_d stones =
    (rank_rises b d board_b.pits board_d.pits stones, rank_orders b d board_b.pits board_d.pits stones)
