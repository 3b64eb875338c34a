use Rattle.std.proofs.Common.{ℕ, List, [], ◌∷◌, ◌++◌, ◌^◌, get_or, take, ap, sym, subst, ◌∙◌}
use Rattle.std.proofs.lemmas.List.{take_more}
use Rattle.awari_rank.specs.Rank.{rank_of}
use Rattle.awari_segments.specs.Segments.{Finds}
use Rattle.awari_segments.proofs.Laying.{finds_both}
use Rattle.awari_segments.proofs.finding.find_batch.Goals as goal

pub loop-k-preserved : goal.loop-k-preserved
loop-k-preserved c =
    let board = get_or c.boards_of-boards.result c.loop-k.k c.index-boards-k.result in
    let is = c.boards_of-boards.ensures c.loop-k.k c.index-boards-k.result c.loop-k-test.true in
    record {
      places = c.in_ok-find_of.ensures.targets ∙ c.loop-k.invariant.places;
      found =
          subst (λ (rs : List ℕ). Finds c.args.index.now (2 ^ c.args.log) rs c.args.lists.now c.find_of.new.lists)
          (ap (λ r. take c.loop-k.k c.args.ranks.now ++ r ∷ []) is.2 ∙ sym (take_more c.args.ranks.now c.loop-k.k 0 c.loop-k-test.true))
          (finds_both c.args.index.now (2 ^ c.args.log) _ _ _ _ _ c.loop-k.invariant.found
          (subst (λ n. Finds n (2 ^ c.args.log) (rank_of board ∷ []) c.loop-k.lists c.find_of.new.lists) is.1 c.in_ok-find_of.ensures.found));
    }
