use Rattle.std.proofs.Common.{◌∙◌, ℤ, ap, rules, FitsSigned, w8}
use Rattle.std.proofs.lemmas.Int.{to_z-of_z}
use Rattle.awari_table.specs.Columns.{row}
use Rattle.awari_table.proofs.ColumnLemmas.{push_seen}
use Rattle.awari_table.proofs.columns.Columns.push.Goals as goal

pub returns-in-Ok-clause-ok : goal.returns-in-Ok-clause-ok
returns-in-Ok-clause-ok c =
    let fits : FitsSigned w8 c.args.entry.value = search rules in
    push_seen _ _ _ _ _ _ _ _ c.self.invariant c.self.view_is c.in_ok-push.ensures.items c.in-Ok.ensures.items
    (ap (λ (v : ℤ). row v c.tail_of-tail.result) (to_z-of_z w8 _ fits) ∙ c.tail_of-tail.ensures)
