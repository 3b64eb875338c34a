use Rattle.std.proofs.Common.{subst, sym, refl}
use Rattle.awari_queries.specs.Spans.{AsksForNone}
use Rattle.awari_queries.proofs.spans.asked_span.Goals as goal

pub returns-in-None-clause-none : goal.returns-in-None-clause-none
returns-in-None-clause-none c = (refl, subst AsksForNone (sym c.in-Some.is) (c.in-None.ensures.none refl))
