use Rattle.std.proofs.Common.{◌∙◌, arith, rules, FitsSigned, w8}
use Rattle.std.proofs.lemmas.Int.{to_z-of_z}
use Rattle.awari_table.proofs.ColumnLemmas.{length-seen, value_seen}
use Rattle.awari_table.proofs.columns.Columns.value.Goals as goal

pub index-requires : goal.index-requires
index-requires c = omega (arith, c.requires, length-seen _ _ _ c.self.invariant c.self.view_is)

pub returns : goal.returns
returns c =
    let fits : FitsSigned w8 c.index.result.now = search rules in
    to_z-of_z w8 _ fits ∙ value_seen _ _ _ _ _ _ c.self.invariant c.self.view_is c.requires c.index.ensures
