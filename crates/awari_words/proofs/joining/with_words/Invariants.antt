use Rattle.std.proofs.Common.{◌≡◌, ◌++◌, map, take}
use Rattle.std.specs.String.{string_bytes}
use Rattle.awari_words.proofs.joining.with_words.Given as goal

abbrev pub invariant-loop-word : goal.invariant-loop-word
invariant-loop-word g l = map string_bytes l.all.items ≡ map string_bytes l.fn.words.items ++ map g.S.AsStr.text (take l.word-index l.others)
