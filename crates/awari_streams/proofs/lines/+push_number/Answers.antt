use Rattle.std.proofs.Common.{◌+◌, ◌++◌, ◌∷◌, [], ◌/◌, ◌%◌, ap, sym, ◌∙◌, append_assoc, arith}
use Rattle.std.specs.Fmt.{decimal}
use Rattle.awari_streams.proofs.Digits.{more_digits}
use Rattle.awari_streams.proofs.lines.+push_number.Goals as goal

pub returns-clause-items : goal.returns-clause-items
returns-clause-items t c =
    let n = c.args.number in
    let more = more_digits n (omega arith) (omega (arith, c.ranges.number.fits)) in
    c.push-2.ensures.items ∙ ap (λ l. l ++ (48 + n % 10) ∷ []) c.push_number.ensures.items ∙ append_assoc _ (decimal (n / 10)) ((48 + n % 10) ∷ []) ∙ ap (λ l. c.args.line.now.items ++ l) (sym more.0)
