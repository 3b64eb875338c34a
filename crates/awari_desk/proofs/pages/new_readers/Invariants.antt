use Rattle.std.proofs.Common.{◌≡◌, [], replicate}
use Rattle.awari_desk.proofs.pages.new_readers.Given as goal

abbrev pub invariant-loop-reader : goal.invariant-loop-reader
invariant-loop-reader l = l.readers.items ≡ replicate l._reader []
