use Rattle.std.proofs.Common.{◌∙◌, sym, eq-eqb, eqb-true, arith, rules, tests}
use Rattle.awari_board.proofs.Matching.{IsMatching-skips, IsMatching-takes, IsMatching-fails, IsMatching-end}
use Rattle.awari_board.proofs.text.is_shaped.Goals as goal
use Rattle.awari_board.proofs.text.is_shaped.Goals.{then-is_separator+else-not-is_mark, else-is_separator}

pub returns-then-not-is_mark : goal.returns-then-not-is_mark
returns-then-not-is_mark c = (
  λ impossible. cc,
  λ same. absurd (IsMatching-fails _ _ _ _ _ c.loop-byte.invariant (omega arith) (sym c.is_separator.ensures ∙ c.if-is_separator.true) (λ mark. let yes = c.is_mark.ensures.1 mark in search (rules, tests)) same),
)

pub loop-byte-preserved : goal.loop-byte-preserved
loop-byte-preserved c =
    elim c.if-is_separator.branch [
      | then-is_separator+else-not-is_mark w ↦
          let mark = w.is_mark.ensures.0 (search rules) in
          rw w.seen-is (IsMatching-takes _ _ _ _ _ c.loop-byte.invariant (omega arith) (sym c.is_separator.ensures ∙ w.if-is_separator.true) mark.0 mark.1)
      | else-is_separator w ↦ rw w.seen-is (IsMatching-skips _ _ _ _ _ c.loop-byte.invariant (omega arith) (sym c.is_separator.ensures ∙ w.if-is_separator.false))
    ]

pub returns : goal.returns
returns c = let end = IsMatching-end _ _ _ _ _ c.loop-byte.invariant (omega arith) in (λ full. end.0 (eqb-true _ _ full), λ same. eq-eqb _ _ (end.1 same))
