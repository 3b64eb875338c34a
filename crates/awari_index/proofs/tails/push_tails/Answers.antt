use Rattle.std.proofs.Common.{◌≡◌, ◌+◌, ◌<◌, ◌++◌, List, ℕ, sum, sym, ap, subst, ◌∙◌, rules, arith}
use Rattle.awari_rank.specs.Fillings.{last_of, none}
use Rattle.awari_rank.specs.Rank.{rank_of, size_of}
use Rattle.awari_index.specs.Runs.{PushesTails}
use Rattle.awari_index.proofs.Filling.{IsFilling, IsFilling-end, IsFilling-more}
use Rattle.awari_index.proofs.Halving.{tail_at}
use Rattle.awari_index.proofs.tails.push_tails.Goals as goal

pub loop-rank-preserved : goal.loop-rank-preserved
loop-rank-preserved c =
    let last : c.rank-last.result ≡ rank_of (none ++ last_of c.args.stones) = c.rank-last.ensures.rank ∙ ap rank_of c.last_tail.ensures in
    let stones : sum (none ++ last_of c.args.stones) ≡ c.args.stones = omega arith in
    let size : size_of (sum c.last_tail.result) ≡ size_of c.args.stones = ap (λ (b : List ℕ). size_of (sum b)) c.last_tail.ensures ∙ ap size_of stones in
    let below = c.rank-last.ensures.below in
    let less : c.loop-rank._rank < c.rank-last.result = search rules in
    record {
      filling = subst (λ (bs : List (List ℕ)). IsFilling c.args.stones c.args.boards.now.items bs (c.loop-rank._rank + 1)) (sym c.in_ok-push.ensures.items)
          (IsFilling-more c.args.stones c.args.boards.now.items c.loop-rank.boards.items c.loop-rank._rank c.loop-rank.board c.loop-rank.invariant.filling
          (tail_at c.args.stones c.loop-rank._rank c.loop-rank.board c.loop-rank.invariant.board (omega (arith, less, last))));
      board = c.next-board.ensures c.args.stones c.loop-rank._rank c.loop-rank.invariant.board (omega (arith, below, size, less));
    }

pub returns : goal.returns
returns c =
    let last : c.rank-last.result ≡ rank_of (none ++ last_of c.args.stones) = c.rank-last.ensures.rank ∙ ap rank_of c.last_tail.ensures in
    let end : c.loop-rank._rank ≡ c.rank-last.result = search rules in
    subst (PushesTails c.args.stones c.args.boards.now.items) (sym c.in_ok-push-2.ensures.items)
    (IsFilling-end c.args.stones c.args.boards.now.items c.loop-rank.boards.items c.loop-rank._rank c.loop-rank.board (end ∙ last) c.loop-rank.invariant.filling c.loop-rank.invariant.board)
