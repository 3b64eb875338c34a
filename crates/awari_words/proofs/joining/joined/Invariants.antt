use Rattle.std.proofs.Common.{◌≡◌, ◌++◌, length, map}
use Rattle.std.specs.String.{string_bytes}
use Rattle.awari_words.specs.Joined.{joined}
use Rattle.awari_words.proofs.joining.joined.Given as goal

abbrev pub invariant-loop-rest : goal.invariant-loop-rest
invariant-loop-rest g l = map string_bytes l.all.items ++ joined (map g.S.AsStr.text l.rest) ≡ joined (map g.S.AsStr.text l.words)

abbrev pub decreases-loop-rest : goal.decreases-loop-rest
decreases-loop-rest g l = length l.rest
