use Rattle.std.proofs.Common.{◌∙◌, ap, sym, arith}
use Rattle.awari_board.specs.Rules.{is_takeable}
use Rattle.awari_board.proofs.Capturing.{run-starts}
use Rattle.awari_packed.specs.Packed.{pits_of}
use Rattle.awari_packed.proofs.Digits.{long-pits_of}
use Rattle.awari_packed.proofs.captures.ends_a_run.Goals as goal

pub returns : goal.returns
returns c =
    let starts = run-starts (pits_of c.args.bits) c.args.last (omega arith) (omega (arith, long-pits_of c.args.bits)) in
    let same = c.is_takeable.ensures ∙ ap is_takeable c.pit.ensures in
    (λ no. starts.0 (sym same ∙ no), λ none. same ∙ starts.1 none)
