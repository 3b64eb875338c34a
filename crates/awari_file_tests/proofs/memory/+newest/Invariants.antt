use Rattle.std.proofs.Common.{length}
use Rattle.awari_file_tests.proofs.memory.+newest.Given as goal

abbrev pub decreases-newest : goal.decreases-newest
decreases-newest l = length l.puts.now
