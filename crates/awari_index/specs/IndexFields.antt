-- The fields of an index.
use Rattle.std.specs.Prelude.{◌+◌, ◌≤◌}
use Rattle.awari_rank.specs.Rank.{size_of}
use Rattle.awari_index.specs.Runs.{AreAllTails, AreRuns, AreWindows}
use Rattle.awari_index.specs.declared.index.TheConstants.{WIDTH}
use Rattle.awari_index.specs.declared.index.Index.TheInside.{Inside}

pub record IsIndex (a : Inside) : Type 0 where
  pub low : a.level ≤ 24
  pub tails : AreAllTails (a.level + 1) a.tails.starts.items a.tails.boards.items
  pub runs : AreRuns a.level a.tails.starts.items a.runs.items (size_of a.level)
  pub windows : AreWindows WIDTH (size_of a.level) a.runs.items a.windows.items
