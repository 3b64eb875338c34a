use Rattle.std.proofs.Common.{◌<◌, arith}
use Rattle.std.proofs.lemmas.Str.Pattern.{strip_prefix_char}
use Rattle.awari_queries.proofs.spans.range_of.Goals as goal

pub returns-in_err-high-clause-none : goal.returns-in_err-high-clause-none
returns-in_err-high-clause-none c = λ _ span is.
    let ascii : 46 < 128 = omega arith in
    let stripped = strip_prefix_char 46 c.args.rest.now c.strip_prefix.result c.strip_prefix.ensures.cases ascii in
    let none = rw c.in_err-high.was at stripped in
    none is.high is.dot
