use Rattle.std.proofs.Common.{arith, subst}
use Rattle.std.proofs.lemmas.List.{take_all}
use Rattle.std.specs.Io.KnownBytes.{Appends}
use Rattle.awari_folder.proofs.States.{unchanged, unchanged_then}
use Rattle.awari_counts.proofs.CountLaws.{level-line, level-none}
use Rattle.awari_facts.proofs.SourceLaws.{says_still}
use Rattle.awari_play.proofs.Lasting.{err_same}
use Rattle.awari_counts.proofs.TallyLaws.{counts_still, levels_by}
use Rattle.awari_counts.specs.Counts.{shown_levels}
use Rattle.awari_counts.proofs.counts.print_levels.Goals as goal

pub loop-number-init : goal.loop-number-init
loop-number-init g c = record { unchanged = unchanged _; lines = λ images says. level-none c.args.task.form images _ _ (c.print_names.ensures c.if-not-print_names.false) }

pub loop-number-preserved : goal.loop-number-preserved
loop-number-preserved g c =
    let i = c.loop-number.invariant in
    record {
      unchanged = unchanged_then _ _ _ i.unchanged c.in_ok-numbers.ensures.same;
      lines = λ images says.
          level-line c.args.task.form images c.loop-number.number c.in_ok-numbers.numbers _ _ _ (c.in_ok-numbers.ensures.said images (says_still c.args.task.source _ _ images i.unchanged.stands says)) (i.lines images says)
          (c.print_level.ensures c.if-not-print_level.false);
    }

pub returns-clause-printed : goal.returns-clause-printed
returns-clause-printed g c = λ images says done.
    subst (λ xs. Appends (g.W.Write.contents c.args.writer.now) (g.W.Write.contents c.loop-number.writer) (shown_levels c.args.task.form xs))
    (take_all c.loop-number.number images (omega (arith, levels_by c.args.task.source _ images says, c.count_levels-number-end.ensures))) (c.loop-number.invariant.lines images says)

pub returns-in_err-numbers-clause-fault : goal.returns-in_err-numbers-clause-fault
returns-in_err-numbers-clause-fault g c =
    err_same c.from_residual.result _ _ c.from_residual.ensures.1
    (counts_still c.args.task.source _ _ c.loop-number.number _ (omega (arith, c.loop-number-test.true, c.count_levels-number-end.ensures)) c.loop-number.invariant.unchanged.stands c.in_err-numbers.ensures.fault)
