use Rattle.std.proofs.Common.{◌≡◌, ℕ, List, Option}
use Rattle.awari_folder.specs.Contents.{AreNames}
use Rattle.awari_folder.specs.State.{Unchanged}
use Rattle.awari_places.proofs.Framing.{AreThere}
use Rattle.awari_places.proofs.opening.open_levels.Given as goal

abbrev pub invariant-loop-level : goal.invariant-loop-level
invariant-loop-level g l =
    let folder = g.F.Folder in
    record {
      levels : l.opened.levels ≡ l.level;
      there : (names : ℕ → Option (List ℕ)) → AreNames (folder.state l.fn.folder).stands names → AreThere names l.level l.opened.limit;
      unchanged : Unchanged (folder.state l.fn.folder) (folder.state l.folder);
      refused : (folder.state l.folder).refusals ≡ (folder.state l.fn.folder).refusals;
    }
