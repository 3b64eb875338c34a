use Rattle.std.proofs.Common.{All, subst, sym, take, arith}
use Rattle.std.proofs.Math.Seq.{take-add}
use Rattle.std.proofs.lemmas.List.Elements.{All-append}
use Rattle.awari_table.specs.Spelling.{FitsNumbers}
use Rattle.awari_table.proofs.Spelled.{more_run}
use Rattle.awari_table.proofs.spelling.write_entries.Goals as goal

pub loop-from-preserved : goal.loop-from-preserved
loop-from-preserved g c = record {
  sized = c.loop-from.invariant.sized;
  within = omega (arith, c.min-count.ensures, c.loop-from.invariant.within);
  lines = more_run _ _ _ c.args.level.now.entries c.loop-from.from c.min-count.result c.loop-from.invariant.lines c.in_ok-write_run.ensures.ok;
  faults = omega (arith, c.loop-from.invariant.faults, c.write_run.ensures.faults);
  fit = subst (All FitsNumbers) (sym (take-add c.loop-from.from c.min-count.result c.args.level.now.entries)) (All-append FitsNumbers (take c.loop-from.from c.args.level.now.entries) _ c.loop-from.invariant.fit c.write_run.ensures.fit);
}
