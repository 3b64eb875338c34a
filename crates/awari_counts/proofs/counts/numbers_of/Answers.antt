use Rattle.std.proofs.Common.{inl, inr, subst}
use Rattle.std.specs.Prelude.{IsSomeAnd, slice_get}
use Rattle.awari_facts.proofs.SourceLaws.{says_still}
use Rattle.awari_play.proofs.Lasting.{err_same}
use Rattle.awari_counts.proofs.TallyLaws.{numbered, numbers_uncounted}
use Rattle.awari_counts.specs.Tallies.{IsTallied}
use Rattle.awari_counts.specs.declared.tables.CellTable.{CellTable}
use Rattle.awari_counts.proofs.counts.numbers_of.Goals as goal

pub returns-clause-said : goal.returns-clause-said
returns-clause-said g c = λ images says.
    numbered images c.args.level c.size.result c.in_ok-limit.limit c.in_ok-tally.tally
    (subst (λ (t : CellTable). IsSomeAnd (slice_get images t.level) (IsTallied t.level t.limit c.in_ok-tally.tally)) c.in_ok-table.ensures.table
    (c.in_ok-tally.ensures.tallied images (says_still c.args.source _ _ images c.in_ok-limit.ensures.same.stands says))) (c.in_ok-limit.ensures.limit images says) c.size.ensures.boards

pub returns-in_err-limit-clause-fault : goal.returns-in_err-limit-clause-fault
returns-in_err-limit-clause-fault g c = err_same c.from_residual.result _ _ c.from_residual.ensures.1 (inl c.in_err-limit.ensures.fault)

pub returns-in_err-table-clause-fault : goal.returns-in_err-table-clause-fault
returns-in_err-table-clause-fault g c =
    err_same c.from_residual-in_err-table.result _ _ c.from_residual-in_err-table.ensures.1 (inr (c.in_ok-limit.limit, c.in_ok-limit.ensures.limit, inl c.in_err-table.ensures.fault))

pub returns-in_err-tally-clause-fault : goal.returns-in_err-tally-clause-fault
returns-in_err-tally-clause-fault g c =
    err_same c.from_residual-in_err-tally.result _ _ c.from_residual-in_err-tally.ensures.1
    (numbers_uncounted c.args.source _ _ c.args.level c.in_ok-limit.limit c.in_ok-table.table _ c.in_ok-limit.ensures.same.stands c.in_ok-limit.ensures.limit c.in_ok-table.ensures.table c.in_err-tally.ensures.fault)
