use Rattle.std.proofs.Common.{FitsSigned, w8, rules, refl, arith}
use Rattle.awari_table.proofs.ColumnLemmas.{row_none, row_pit}
use Rattle.awari_table.proofs.columns.entry_of_row.Goals as goal

pub returns-then-code-eq0 : goal.returns-then-code-eq0
returns-then-code-eq0 c = let fits : FitsSigned w8 c.args.value = search rules in row_none c.args.value c.args.tail _ fits refl c.if-code-eq0.true

pub returns : goal.returns
returns c = let fits : FitsSigned w8 c.args.value = search rules in row_pit c.args.value c.args.tail fits (omega (arith, c.if-code-eq0.false))
