use Rattle.std.proofs.Common.{◌≡◌, ◌<◌, ◌++◌, [], ℕ, drop, length, min, sum, take}
use Rattle.std.specs.Prelude.{slice_index_or}
use Rattle.awari_exports.specs.Told.{told_entries}
use Rattle.awari_exports.proofs.many.tell_each.Given as goal

abbrev pub invariant-loop-place : goal.invariant-loop-place
invariant-loop-place l =
    (l.count ≡ min (length l.boards) (length l.initial.out)) × (l.out ≡ told_entries l.shelf (take l.place l.boards) ++ drop l.place l.initial.out)
    × ((i : ℕ) → i < l.place → sum (slice_index_or l.boards i []) < length l.shelf)
