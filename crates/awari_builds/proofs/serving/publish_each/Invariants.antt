use Rattle.std.proofs.Common.{◌≡◌, length, take}
use Rattle.awari_desk.specs.Desks.{book_of}
use Rattle.awari_builds.proofs.serving.publish_each.Given as goal

abbrev pub invariant-loop-number : goal.invariant-loop-number
invariant-loop-number g l = (l.number-end ≡ length l.shelf) × (book_of l.publisher.pages ≡ take l.number l.shelf)
