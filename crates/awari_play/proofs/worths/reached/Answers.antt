use Rattle.std.proofs.Common.{◌∙◌, ap, arith}
use Rattle.awari_table.specs.declared.images.Entry.{Entry}
use Rattle.awari_play.proofs.Lasting.{err_same, refused_at}
use Rattle.awari_play.proofs.worths.reached.Goals as goal

pub returns-clause-reached : goal.returns-clause-reached
returns-clause-reached g c = λ images says.
    let is = c.in_ok-entry.ensures.entry images says in (
      c.in-Ok.moved.board,
      rw (c.of.ensures.captured) c.in-Ok.ensures.moved,
      c.of.ensures.value ∙ ap (λ (e : Entry). e.value) is,
      rw (c.of.ensures.captured, ← is) c.of.ensures.plies,
    )

pub returns-in_err-entry-clause-fault : goal.returns-in_err-entry-clause-fault
returns-in_err-entry-clause-fault g c =
    err_same c.from_residual.result _ _ c.from_residual.ensures.1 (
    refused_at _ _ _ _ (omega (arith, c.in-Ok.ensures.kept, c.requires.known)) c.in_err-entry.ensures.fault)
