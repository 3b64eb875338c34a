use Rattle.std.proofs.Common.{refl, sym, ◌∙◌, ap, arith, sum}
use Rattle.std.proofs.lemmas.List.{length-set}
use Rattle.awari_rank.specs.Rank.{rank_of, size_of}
use Rattle.awari_rank.proofs.Ranking.{rank_fixes}
use Rattle.awari_rank.proofs.Unranking.{none_laid, one_laid, all_laid, rank_of-found}
use Rattle.awari_rank.proofs.ranks.unrank.Goals as goal

pub loop-pit-init : goal.loop-pit-init
unfolding size_of
loop-pit-init c = none_laid _ _ _ c.requires.few refl (omega (arith, c.size.ensures.boards))

pub loop-pit-preserved : goal.loop-pit-preserved
loop-pit-preserved c =
    one_laid _ _ c.loop-pit.invariant c.loop-pit-test.true c.most_right-right.ensures.limit c.fewer_after-larger.ensures
    (omega arith) c.most_right-right.ensures.most

pub new-requires : goal.new-requires
new-requires c = let found = all_laid c.loop-pit.invariant (omega arith) in omega arith

pub returns-clause-stones : goal.returns-clause-stones
returns-clause-stones c = let found = all_laid c.loop-pit.invariant (omega arith) in ap sum c.new.ensures.pits ∙ found.stones

pub returns-clause-rank : goal.returns-clause-rank
returns-clause-rank c =
    let found = all_laid c.loop-pit.invariant (omega arith) in
    let long = length-set c.loop-pit.pits 11 c.loop-pit.left ∙ c.loop-pit.invariant.long in
    ap rank_of c.new.ensures.pits ∙ rank_of-found _ found long (omega (arith, c.size.ensures.boards)) c.requires.in_range

pub returns-clause-only : goal.returns-clause-only
returns-clause-only c b board stones rank =
    let found = all_laid c.loop-pit.invariant (omega arith) in
    let long = length-set c.loop-pit.pits 11 c.loop-pit.left ∙ c.loop-pit.invariant.long in
    let found_rank = rank_of-found c.args.rank found long (omega (arith, c.size.ensures.boards)) c.requires.in_range in
    rank_fixes b _ board.pits long (stones ∙ sym found.stones) (rank ∙ sym found_rank) ∙ sym c.new.ensures.pits
