use Rattle.std.proofs.Common.{Ok, ap, refl}
use Rattle.std.proofs.KnownBytes.{Appends-nil}
use Rattle.awari_facts.proofs.PartLaws.{lines-next}
use Rattle.awari_facts.proofs.SourceLaws.{shelf_formed}
use Rattle.awari_folder.proofs.States.{unchanged, unchanged_then}
use Rattle.awari_levels.proofs.ListingLaws.{all_listed}
use Rattle.awari_levels.specs.Boards.{level_lines}
use Rattle.awari_levels.proofs.boards.print_levels.Goals as goal

pub loop-level-init : goal.loop-level-init
loop-level-init g c = record { unchanged = unchanged _; lines = Appends-nil _ }

pub loop-level-preserved : goal.loop-level-preserved
loop-level-preserved g c = record {
  unchanged = unchanged_then _ _ _ c.loop-level.invariant.unchanged c.in_ok-print_boards.ensures.same;
  lines =
      lines-next (level_lines c.args.shelf.now) c.loop-level.level _ _ _ c.loop-level.invariant.lines
      (all_listed c.args.shelf.now c.loop-level.level _ _ (c.in_ok-print_boards.ensures.printed c.args.shelf.now (refl, shelf_formed c.args.shelf.now c.levels-level-end.ensures.shelf) (ap (λ b. Ok b) c.if-not-branch.false)));
}
