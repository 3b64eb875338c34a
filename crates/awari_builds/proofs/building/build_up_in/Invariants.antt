use Rattle.std.proofs.Common.{◌-◌, ◌+◌, length}
use Rattle.awari_builds.proofs.SavedLevels.{IsUnderWay}
use Rattle.awari_builds.proofs.building.build_up_in.Given as goal

abbrev pub invariant-loop-builder : goal.invariant-loop-builder
invariant-loop-builder g l =
    let state = g.F.Folder.state in
    let contents = g.W.Write.contents in
    IsUnderWay l.top l.fn.stored.shelf l.stored.shelf l.fn.stored.digest l.stored.digest (state l.fn.folder) (state l.folder) (contents l.fn.writer) (contents l.writer)

abbrev pub decreases-loop-builder : goal.decreases-loop-builder
decreases-loop-builder g l = l.top + 1 - length l.stored.shelf
