use Rattle.std.proofs.Common.{◌≡◌, ◌<◌, inl, inr, subst, sym, true}
use Rattle.awari_facts.proofs.SourceLaws.{limit_said}
use Rattle.awari_places.proofs.Reading.{still_says}
use Rattle.awari_play.proofs.Lasting.{err_same}
use Rattle.awari_counts.specs.declared.tables.CellTable.{CellTable}
use Rattle.awari_counts.proofs.PairLaws.{count-before, table-asked}
use Rattle.awari_counts.proofs.pairs.print_own_pairs.Goals as goal

pub returns-clause-printed : goal.returns-clause-printed
returns-clause-printed g c = λ levels images says low done.
    let written : c.print_table.result ≡ true = cc done in
    table-asked c.args.wish.form c.in_ok-table.table images c.args.wish.level c.args.wish.pair c.in_ok-limit.limit _ c.as_slice.result.now _ _ c.in_ok-table.ensures.table
    (limit_said images c.args.wish.level c.in_ok-limit.limit (c.in_ok-limit.ensures.limit levels images says low)) c.as_slice.ensures.value
    (c.in_ok-counts.ensures.counted levels images (still_says _ _ levels images c.in_ok-limit.ensures.same.stands says) (subst (λ (t : CellTable). t.level < levels) (sym c.in_ok-table.ensures.table) low)) (λ are. c.print_table.ensures images are written)

pub returns-in_err-limit-clause-fault : goal.returns-in_err-limit-clause-fault
returns-in_err-limit-clause-fault g c = err_same c.from_residual.result _ _ c.from_residual.ensures.1 (inl c.in_err-limit.ensures.fault)

pub returns-in_err-table-clause-fault : goal.returns-in_err-table-clause-fault
returns-in_err-table-clause-fault g c =
    err_same c.from_residual-in_err-table.result _ _ c.from_residual-in_err-table.ensures.1
    (inr (c.in_ok-limit.limit, λ levels images says low. limit_said images c.args.wish.level c.in_ok-limit.limit (c.in_ok-limit.ensures.limit levels images says low), inl c.in_err-table.ensures.fault))

pub returns-in_err-counts-clause-fault : goal.returns-in_err-counts-clause-fault
returns-in_err-counts-clause-fault g c =
    err_same c.from_residual-in_err-counts.result _ _ c.from_residual-in_err-counts.ensures.1
    (inr (
      c.in_ok-limit.limit,
      λ levels images says low. limit_said images c.args.wish.level c.in_ok-limit.limit (c.in_ok-limit.ensures.limit levels images says low),
      inr (count-before c.in_ok-table.table _ _ _ _ c.in_ok-table.ensures.table c.in_ok-limit.ensures.same.stands c.in_err-counts.ensures.fault),
    ))
