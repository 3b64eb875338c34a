use mir.Syntax.{w64}
use mir.Val.{of_z, to_z}
use Rattle.std.proofs.Common.{◌≡◌, rules, ◌∙◌}
use Rattle.awari_counts.proofs.tables.own_cell.Goals as goal

pub returns-in-None-clause-none : goal.returns-in-None-clause-none
returns-in-None-clause-none c = λ images board at cell own.
    let first : to_z w64 (of_z w64 c.in-Some.first) ≡ c.in-Some.first = search rules in
    let second : to_z w64 (of_z w64 c.in-Some-own_number.second) ≡ c.in-Some-own_number.second = search rules in
    c.cell_at.ensures.none (search rules) cell (record {
      row = own.row;
      column = own.column;
      row_inside = own.row_inside;
      column_inside = own.column_inside;
      first_is = first ∙ c.in-Some.ensures.number images board at ∙ own.first_is;
      second_is = second ∙ c.in-Some-own_number.ensures.number images board at ∙ own.second_is;
      is = own.is;
    })
