use Rattle.std.proofs.Common.{arith}
use Rattle.std.proofs.lemmas.List.Elements.{All-more}
use Rattle.awari_table.proofs.Spelled.{spelled_more}
use Rattle.awari_table.specs.Spelling.{FitsNumbers}
use Rattle.awari_table.proofs.spelling.write_batch.Goals as goal

pub loop-entry-preserved : goal.loop-entry-preserved
loop-entry-preserved g c = record {
  room = omega arith;
  fit = All-more FitsNumbers c.args.entries.now c.loop-entry.entry-index _ (omega arith) c.loop-entry.invariant.fit c.push_line.ensures.fits;
  spelled = spelled_more c.args.entries.now c.loop-entry.entry-index _ _ _ (omega arith) c.loop-entry.invariant.spelled c.push_line.ensures.items;
}
