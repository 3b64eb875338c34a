use Rattle.std.proofs.Common.{arith}
use Rattle.awari_table.proofs.ColumnLemmas.{length-seen}
use Rattle.awari_table.proofs.columns.Columns.len.Goals as goal

pub returns : goal.returns
returns c = omega (arith, c.len.ensures, length-seen _ _ _ c.self.invariant c.self.view_is)
