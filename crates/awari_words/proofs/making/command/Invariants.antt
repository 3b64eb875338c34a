use Rattle.std.proofs.Common.{map, take}
use Rattle.awari_words.specs.Commands.{command, word_rule}
use Rattle.awari_words.specs.Making.{IsCommand}
use Rattle.awari_words.proofs.making.command.Given as goal

abbrev pub invariant-loop-word : goal.invariant-loop-word
invariant-loop-word l = IsCommand l.command (command l.row.name.now (map (word_rule (λ t. t.now)) (take l.word-index l.word-items)))
