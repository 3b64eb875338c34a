use Rattle.std.proofs.Common.{◌≡◌, length, ap, arith}
use Rattle.awari_boards.proofs.JudgeLaws.{words-counted, words-more, words-refused, judging-end}
use Rattle.awari_boards.proofs.judgements.judge.Goals as goal

pub returns-in-Err-clause-fault : goal.returns-in-Err-clause-fault
returns-in-Err-clause-fault c =
    let (board, whole, is, shows, counted, few) = c.loop-word.invariant in
    (board, whole, is, words-refused _ board c.args.words.now _ _ _ _ _ _ shows c.loop-word-test.true c.as_bytes.ensures.value counted c.in-Err.ensures.refused)

pub loop-word-preserved : goal.loop-word-preserved
loop-word-preserved c =
    let (board, whole, is, shows, counted, few) = c.loop-word.invariant in
    let inside = c.loop-word-test.true in
    let words = c.args.words.now in (
      board,
      whole,
      is,
      words-more _ _ board words _ _ _ shows inside c.as_bytes.ensures.value c.in-Ok.ensures.played,
      words-counted words _ _ _ inside counted,
      omega (arith, few, c.as_bytes.ensures.len, ap length c.as_bytes.ensures.value),
    )

pub returns-clause-judged : goal.returns-clause-judged
returns-clause-judged c =
    let (board, whole, is, shows, counted, few) = c.loop-word.invariant in
    let all : c.loop-word.word-index ≡ length c.args.words.now = omega arith in
    let found = c.judgement_of.ensures in
    (board, is, judging-end _ board _ _ _ _ whole shows all found.board found.running found.quiet found.outcome)
