use Rattle.std.proofs.Common.{◌+◌, ◌++◌, length, subst, sym}
use Rattle.awari_boards.specs.Judgement.{pits_named, IsRefusedAt}
use Rattle.awari_boards.proofs.JudgeLaws.{word-refused}
use Rattle.awari_boards.proofs.judgements.play_word.Goals as goal

pub returns-in-Err-clause-refused : goal.returns-in-Err-clause-refused
returns-in-Err-clause-refused c = λ board pits before.
    subst (λ n. IsRefusedAt board (pits ++ pits_named c.args.word.now) (length pits + n) c.in-Err.fault) (sym c.loop-byte.invariant.1)
    (word-refused _ board pits c.args.word.now _ _ _ (c.loop-byte.invariant.0 board pits before) c.loop-byte-test.true c.pit_named.ensures c.in-Err.ensures.refused)
