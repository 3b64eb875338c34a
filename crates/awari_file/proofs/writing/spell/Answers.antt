use Rattle.std.proofs.Common.{arith}
use Rattle.std.proofs.lemmas.Grind.{common_steps}
use Rattle.std.proofs.lemmas.List.Elements.{All-more}
use Rattle.awari_table.specs.Spelling.{FitsNumbers}
use Rattle.awari_file.proofs.writing.spell.Goals as goal

pub loop-entry-preserved : goal.loop-entry-preserved
loop-entry-preserved c = record {
  room = grind (arith, common_steps);
  len = omega arith;
  fit = All-more FitsNumbers c.args.entries.now c.loop-entry.entry-index _ (omega arith) c.loop-entry.invariant.fit c.bytes_of-bytes.ensures.fits;
  bytes = grind (arith, common_steps);
}
