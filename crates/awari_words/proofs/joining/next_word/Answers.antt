use Rattle.std.proofs.Common.{rules}
use Rattle.awari_words.proofs.JoinedWords.{joined_next, kept_last, kept_next}
use Rattle.awari_words.proofs.joining.next_word.Goals as goal
use Rattle.awari_words.proofs.joining.next_word.Goals.{in_default-via-in-Some+else-is_joined, in_default-via-in_default}

pub returns-in_ok-with_value-in-Some-clause-joined : goal.returns-in_ok-with_value-in-Some-clause-joined
returns-in_ok-with_value-in-Some-clause-joined g c =
    joined_next g.S.AsStr.text c.args.word.now _ c.args.after.now c.in-Some.value.now c.in-Some.others.now (search rules) (search rules) c.requires (search rules)

pub returns-in_ok-from_str-in_default-clause-joined : goal.returns-in_ok-from_str-in_default-clause-joined
returns-in_ok-from_str-in_default-clause-joined g c = elim c.in_default.branch [
  | in_default-via-in-Some+else-is_joined w ↦
      kept_next g.S.AsStr.text c.args.word.now _ c.args.after.now w.in-Some.value.now w.in-Some.others.now (search rules) (search rules) c.requires (search rules)
  | in_default-via-in_default w ↦ kept_last g.S.AsStr.text c.args.word.now _ c.args.after.now (search rules) (search rules)
]
