use Rattle.std.proofs.Common.{arith, ap}
use Rattle.awari_rank.specs.Rank.{size_of}
use Rattle.awari_rank.proofs.Counting.{ways-suc, ways_is}
use Rattle.awari_rank.proofs.Ranking.{rank_of-below}
use Rattle.awari_rank.proofs.Reaching.{board_reached, size_of-positive}
use Rattle.awari_rank.proofs.ranks.size.Goals as goal

pub returns-clause-boards : goal.returns-clause-boards
unfolding size_of
returns-clause-boards c = omega (arith, c.fewer_after.ensures, ways-suc 11 c.args.stones)

pub returns-clause-binomial : goal.returns-clause-binomial
returns-clause-binomial c = omega (arith, c.fewer_after.ensures, ways-suc 11 c.args.stones, ways_is 11 c.args.stones)

pub returns-clause-below : goal.returns-clause-below
returns-clause-below c p board stones = omega (arith, rank_of-below p board.pits, ap size_of stones)

pub returns-clause-onto : goal.returns-clause-onto
returns-clause-onto c r = board_reached c.args.stones r c.requires

pub returns-clause-some : goal.returns-clause-some
unfolding size_of
returns-clause-some c = omega (arith, c.fewer_after.ensures, ways-suc 11 c.args.stones, size_of-positive c.args.stones)
