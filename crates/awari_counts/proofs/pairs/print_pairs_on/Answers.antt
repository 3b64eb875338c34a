use Rattle.std.proofs.Common.{◌<◌, inl, inr, subst}
use Rattle.awari_play.proofs.Lasting.{err_same}
use Rattle.awari_rank.specs.Rank.{size_of}
use Rattle.awari_counts.proofs.PairLaws.{held-asked}
use Rattle.awari_counts.proofs.pairs.print_pairs_on.Goals as goal

pub returns-in_err-table-clause-fault : goal.returns-in_err-table-clause-fault
returns-in_err-table-clause-fault g c =
    err_same c.from_residual.result _ _ c.from_residual.ensures.1
    (inl (c.in_err-table.ensures.fault.0, subst (λ l. size_of c.args.wish.level < l) c.limit_on.ensures c.in_err-table.ensures.fault.1))

pub returns-in_err-counts-clause-fault : goal.returns-in_err-counts-clause-fault
returns-in_err-counts-clause-fault g c =
    err_same c.from_residual-in_err-counts.result _ _ c.from_residual-in_err-counts.ensures.1
    (inr (held-asked _ c.in_ok-table.table c.args.wish.level c.args.wish.pair c.limit_on.result _ c.in_ok-table.ensures.table c.limit_on.ensures c.in_err-counts.ensures.fault))
