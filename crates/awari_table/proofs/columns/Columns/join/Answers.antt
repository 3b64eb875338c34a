use Rattle.std.proofs.Common.{◌++◌, ◌∙◌, List, ℕ, ℤ, ap}
use Rattle.awari_table.proofs.ColumnLemmas.{join_seen}
use Rattle.awari_table.proofs.columns.Columns.join.Goals as goal

pub returns-in-Ok-clause-ok : goal.returns-in-Ok-clause-ok
returns-in-Ok-clause-ok c =
    let values = c.in_ok-extend_from_slice.ensures.items ∙ ap (λ (vs : List ℤ). c.self.inside.values.items ++ vs) c.as_slice.ensures.value in
    let tails = c.in-Ok.ensures.items ∙ ap (λ (ts : List ℕ). c.self.inside.tails.items ++ ts) c.as_slice-2.ensures.value in
    join_seen _ _ _ _ _ _ _ _ c.self.invariant c.self.view_is c.more.view_is values tails
