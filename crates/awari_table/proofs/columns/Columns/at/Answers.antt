use Rattle.std.proofs.Common.{◌∙◌, ℤ, arith, ap, rules, FitsSigned, w8}
use Rattle.std.proofs.lemmas.Int.{to_z-of_z}
use Rattle.awari_table.specs.Columns.{row}
use Rattle.awari_table.proofs.ColumnLemmas.{length-seen, at_seen}
use Rattle.awari_table.proofs.columns.Columns.at.Goals as goal

pub index-requires : goal.index-requires
index-requires c = omega (arith, c.requires, length-seen _ _ _ c.self.invariant c.self.view_is)

pub index-requires-2 : goal.index-requires-2
index-requires-2 c = omega (arith, c.requires, c.self.invariant, length-seen _ _ _ c.self.invariant c.self.view_is)

pub returns : goal.returns
returns c =
    let fits : FitsSigned w8 c.index.result.now = search rules in
    at_seen _ _ _ _ _ _ _ c.self.invariant c.self.view_is c.requires c.index.ensures c.index-2.ensures
    (c.entry_of_row.ensures ∙ ap (λ (v : ℤ). row v c.index-2.result.now) (to_z-of_z w8 _ fits))
