use Rattle.std.proofs.Common.{◌<◌, ◌≡◌}
use Rattle.awari_table.specs.Columns.{plan_of_code}
use Rattle.awari_table.proofs.ColumnLemmas.{row_of_tail, code_some, code_none}
use Rattle.awari_table.proofs.columns.tail_of.Goals as goal
use Rattle.awari_table.proofs.columns.tail_of.Goals.{in-Some, in-None}

pub returns : goal.returns
returns c =
    let is : (c.match-entry.code < 8) × (plan_of_code c.match-entry.code ≡ c.args.entry.plan) =
    elim c.match-entry.branch [ in-Some w ↦ code_some _ w.in-Some.pit _ c.requires.plan w.in-Some.is w.code-is | in-None w ↦ code_none _ _ w.in-None.is w.code-is ] in
    row_of_tail _ _ _ _ is.0 is.1
