use Rattle.std.proofs.Common.{sym, subst}
use Rattle.awari_table.specs.Shelves.{Consistent}
use Rattle.awari_table.proofs.ShelfLemmas.{IsLevel-consistent, IsShelf-push}
use Rattle.awari_theory.proofs.Truths.{TellsTruth-shelf}
use Rattle.awari_play.specs.Least.{IsPlannedLowest}
use Rattle.awari_exports.proofs.held.next_level.Goals as goal

-- the image is consistent, as the law says
consistent : (c : goal.After-kept_levels_are_right) → Consistent c.args.shelf.now c.args.image
consistent c =
    let made = c.requires.made in
    c.kept_levels_are_right.ensures.consistent _ made.parts _ c.levels-levels.ensures.shelf c.requires.low made.whole made.closed made.heard made.kept

pub new-requires : goal.new-requires
new-requires c = IsLevel-consistent c.args.shelf.now c.args.image (consistent c)

pub returns : goal.returns
returns c =
    let made = c.requires.made in
    let right = subst (Consistent c.args.shelf.now) (sym c.new.ensures) (consistent c.before) in
    record {
      consistent = right;
      meaning = TellsTruth-shelf _ (IsShelf-push c.args.shelf.now c.new.result c.levels-levels.ensures.shelf right);
      planned = subst (IsPlannedLowest c.args.shelf.now) (sym c.new.ensures) (c.kept_levels_are_right.ensures.planned _ made.parts _ made.whole made.closed made.heard made.kept);
    }
