use Rattle.std.proofs.Common.{◌∙◌, ap, min, rules, subst}
use Rattle.awari_places.specs.Opening.{AreFramed}
use Rattle.awari_table.specs.declared.TheConstants.{HIGHEST_LEVEL}
use Rattle.awari_boards.proofs.opening.open_for.Goals as goal

pub returns-clause-opened : goal.returns-clause-opened
returns-clause-opened g c = record {
  whole = search rules;
  spelled = search rules;
  framed = λ names are.
      subst (λ most. AreFramed most names c.in_ok-opened.opened) (c.min.ensures ∙ ap (λ stones. min stones HIGHEST_LEVEL) c.stones.ensures.stones) (c.in_ok-opened.ensures.exact names are);
}
