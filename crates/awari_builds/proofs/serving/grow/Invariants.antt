use Rattle.std.proofs.Common.{◌+◌, ◌-◌, length}
use Rattle.awari_desk.specs.Desks.{book_of}
use Rattle.awari_builds.proofs.serving.grow.Given as goal

abbrev pub decreases-level : goal.decreases-level
decreases-level g l = l.top + 1 - length (book_of l.publisher.pages)
