use Rattle.std.proofs.Common.{◌≡◌, List, length, take}
use Rattle.awari_folder.specs.State.{Unchanged}
use Rattle.awari_table.specs.declared.images.Image.{Image}
use Rattle.awari_places.specs.Places.{AreFormed, Says}
use Rattle.awari_places.proofs.said.read_levels.Given as goal

abbrev pub invariant-loop-level : goal.invariant-loop-level
invariant-loop-level g l = record {
  many : length l.read.items ≡ l.level;
  formed : AreFormed l.read.items;
  unchanged : Unchanged (g.F.Folder.state l.fn.folder) (g.F.Folder.state l.folder);
  said : (images : List Image) → Says (g.F.Folder.state l.fn.folder).stands l.fn.levels images → l.read.items ≡ take l.level images;
}
