use Rattle.std.proofs.Common.{◌≡◌, ◌+◌, ◌∙◌, length, refl, sym, arith}
use Rattle.awari_board.proofs.Capturing.{run_to-own, run-starts}
use Rattle.awari_board.proofs.captures.ends_a_run.Goals as goal

pub returns-then-last-lt-SIDE : goal.returns-then-last-lt-SIDE
returns-then-last-lt-SIDE c = (λ _. run_to-own c.args.pits.now (c.args.last + 1) (omega arith), λ _. refl)

pub returns : goal.returns
returns c =
    let whole : length c.args.pits.now ≡ 12 = omega arith in
    let starts = run-starts c.args.pits.now c.args.last (omega arith) (omega arith) in
    (λ no. starts.0 (sym c.is_takeable.ensures ∙ no), λ none. c.is_takeable.ensures ∙ starts.1 none)
