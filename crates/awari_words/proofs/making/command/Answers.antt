use Rattle.std.proofs.Common.{rules}
use Rattle.awari_words.specs.Commands.{word_rule}
use Rattle.awari_words.proofs.MadeCommands.{next_word}
use Rattle.awari_words.proofs.making.command.Goals as goal

pub loop-word-preserved : goal.loop-word-preserved
loop-word-preserved c =
    let added = c.in_ok-command.ensures.shape c.argument.ensures.1 in
    let so_far = c.loop-word.invariant in
    (next_word (word_rule (λ t. t.now)) _ c.args.row.now.words.now c.loop-word.word-index _ _ _ _ (search rules) so_far.0 c.argument.ensures.0 added, search rules)
