use Rattle.std.proofs.Common.{◌≡◌, ℕ, List, Option, length}
use Rattle.awari_theory.specs.Truth.{TellsTruth}
use Rattle.awari_folder.specs.Contents.{AreNames, HoldLevels}
use Rattle.awari_folder.specs.State.{Unchanged}
use Rattle.awari_folder.proofs.loading.load.Given as goal

abbrev pub invariant-loop-level : goal.invariant-loop-level
invariant-loop-level g l =
    let folder = g.F.Folder in
    record {
      truth : TellsTruth l.stored.shelf;
      levels : length l.stored.shelf ≡ l.level;
      held : (names : ℕ → Option (List ℕ)) → AreNames (folder.state l.fn.folder).stands names → HoldLevels names l.level l.stored.shelf l.stored.digest;
      unchanged : Unchanged (folder.state l.fn.folder) (folder.state l.folder);
      refused : (folder.state l.folder).refusals ≡ (folder.state l.fn.folder).refusals;
    }
