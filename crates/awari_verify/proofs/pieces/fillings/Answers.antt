use Rattle.std.proofs.Common.{◌≡◌, ◌↔◌, ◌+◌, ◌<◌, ℕ, subst, sym, ap, ◌∙◌}
use Rattle.awari_board.specs.Rules.{own_stones}
use Rattle.awari_rank.specs.Rank.{rank_of}
use Rattle.awari_verify.proofs.FillingLemmas.{fillings_first}
use Rattle.awari_verify.proofs.pieces.fillings.Goals as goal

pub returns-clause-first : goal.returns-clause-first
returns-clause-first c = λ p board stones.
    subst (λ (r : ℕ). (rank_of p < r + 1) ↔ (own_stones p ≡ 0)) (ap rank_of (sym c.new.ensures.pits) ∙ sym c.rank.ensures.rank)
    (fillings_first c.args.stones p board.pits stones)
