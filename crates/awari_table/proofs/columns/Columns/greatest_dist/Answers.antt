use Rattle.std.proofs.Common.{◌∙◌, List, ℕ, ap, fold, max}
use Rattle.awari_table.proofs.ColumnLemmas.{greatest_seen}
use Rattle.awari_table.proofs.columns.Columns.greatest_dist.Goals as goal

pub returns : goal.returns
returns c =
    let most = c.greatest_tail.ensures ∙ ap (λ (tails : List ℕ). fold (λ most tail. max most tail) 0 tails) c.as_slice.ensures.value in
    c.from.ensures ∙ greatest_seen _ _ _ _ c.self.invariant c.self.view_is most
