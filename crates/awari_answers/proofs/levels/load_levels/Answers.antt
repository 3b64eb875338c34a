use Rattle.std.proofs.Common.{◌≡◌, min, rules, subst}
use Rattle.awari_folder.specs.Contents.{IsStoredToIn}
use Rattle.awari_table.specs.declared.TheConstants.{HIGHEST_LEVEL}
use Rattle.awari_answers.proofs.levels.load_levels.Goals as goal

pub returns-clause-levels : goal.returns-clause-levels
returns-clause-levels g c = record {
  digest = c.in_ok-shelf.field-0.digest;
  stored =
      (let is : c.min-most.result ≡ min c.args.most HIGHEST_LEVEL = search rules in
      subst (λ most. IsStoredToIn most (g.F.Folder.state c.args.folder.now).stands c.in_ok-shelf.field-0.shelf c.in_ok-shelf.field-0.digest) is c.in_ok-shelf.ensures.exact);
  right = c.levels-levels.ensures.shelf;
}
