use Rattle.std.proofs.Common.{◌<◌, arith, subst, sym}
use Rattle.awari_rank.specs.Rank.{size_of}
use Rattle.awari_facts.proofs.looks.left_by.Goals as goal

pub returns-clause-some : goal.returns-clause-some
returns-clause-some c = record {
  next = c.play-moved.result.board;
  moved = c.play-moved.ensures.moved;
  stones = c.stones.ensures.stones;
  rank = c.rank.ensures.rank;
  few = omega (arith, c.play-moved.ensures.kept, c.stones.ensures.stones);
  ranked = subst (λ n. c.rank.result < size_of n) (sym c.stones.ensures.stones) c.rank.ensures.below;
}
