use Rattle.std.proofs.Common.{min, rules, subst}
use Rattle.awari_answers.specs.Asked.{AreLevelsTo}
use Rattle.awari_table.specs.declared.TheConstants.{HIGHEST_LEVEL}
use Rattle.awari_answers.proofs.asked.ask_folder.Goals as goal

pub returns-clause-asked : goal.returns-clause-asked
returns-clause-asked g c = record {
  levels = subst (λ stones. AreLevelsTo (min stones HIGHEST_LEVEL) (g.F.Folder.state c.args.folder.now).stands c.in_ok-shelf.shelf) c.stones.ensures.stones c.in_ok-shelf.ensures.levels;
  whole = search rules;
  spelled = search rules;
}
