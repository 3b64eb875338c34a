use Rattle.std.proofs.Common.{◌<◌, inl, inr, arith, sym, subst}
use Rattle.std.proofs.lemmas.Str.Pattern.{split_after, split_parts}
use Rattle.awari_queries.proofs.SpanLaws.{dot_in, end-no_dot, no_dot}
use Rattle.awari_queries.specs.Spans.{IsRange}
use Rattle.awari_queries.proofs.spans.span_of.Goals as goal

pub returns-in-None-clause-none : goal.returns-in-None-clause-none
returns-in-None-clause-none c = λ is_none span is.
    let ascii : 46 < 128 = omega arith in
    elim is [
      | inl two ↦
          let after = split_after 46 c.args.text.now two.low two.rest c.split_once.result c.split_once.ensures.cases ascii two.parts (end-no_dot _ two.low _ two.range.lowest) in
          absurd (rw c.in-None.is at after)
      | inr one ↦ c.one_number.ensures.none is_none span.low one.0
    ]

pub returns-in-Some-clause-none : goal.returns-in-Some-clause-none
returns-in-Some-clause-none c = λ is_none span is.
    let ascii : 46 < 128 = omega arith in
    elim is [
      | inl two ↦
          let after = split_after 46 c.args.text.now two.low two.rest c.split_once.result c.split_once.ensures.cases ascii two.parts (end-no_dot _ two.low _ two.range.lowest) in
          let found = rw c.in-Some.is at after in
          c.range_of.ensures.none is_none span (subst (λ l. IsRange l c.in-Some.rest.now span) (sym found.0) (subst (λ r. IsRange two.low r span) (sym found.1) two.range))
      | inr one ↦
          let parts = split_parts 46 c.args.text.now c.split_once.result c.split_once.ensures.cases ascii in
          let found = rw c.in-Some.is at parts in
          absurd (dot_in c.args.text.now _ _ found.0 (no_dot c.args.text.now one.0.numeral))
    ]
