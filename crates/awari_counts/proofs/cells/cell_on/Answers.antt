use Rattle.std.proofs.Common.{FitsSigned, w64, ◌∙◌, ◌≤◌, rules, arith}
use Rattle.std.proofs.lemmas.Int.{to_z-of_z}
use Rattle.awari_facts.specs.Sources.{images_of}
use Rattle.awari_counts.proofs.CellLaws.{has-cell}
use Rattle.awari_facts.proofs.RankLaws.{some_entry}
use Rattle.awari_counts.proofs.cells.cell_on.Goals as goal

pub returns : goal.returns
returns c =
    let images = images_of c.args.levels in
    let low : c.args.table.level ≤ 24 = omega (arith, c.requires.level, c.levels_in-levels.ensures.formed.few) in
    let (board, at) = some_entry images c.args.table.level c.args.rank c.entry_on-entry.result c.entry_on-entry.ensures low c.requires.rank in
    let first_fits : FitsSigned w64 c.number_of-first.result = search rules in
    let second_fits : FitsSigned w64 c.number_of-second.result = search rules in
    has-cell images c.args.table c.args.rank board c.entry_on-entry.result _ _ c.cell_at.result at (to_z-of_z w64 c.number_of-first.result first_fits ∙ c.number_of-first.ensures.number board at)
    (to_z-of_z w64 c.number_of-second.result second_fits ∙ c.number_of-second.ensures.number board at) c.cell_at.ensures.inside c.cell_at.ensures.cell c.cell_at.ensures.none
