use Rattle.std.proofs.Common.{Global, String, Vec, arith, map, rules, sym, ◌∙◌}
use Rattle.std.specs.String.{string_bytes}
use Rattle.awari_words.proofs.JoinedWords.{left_as_is, none_left}
use Rattle.awari_words.proofs.joining.joined.Goals as goal

pub returns-then-eq : goal.returns-then-eq
returns-then-eq g c =
    left_as_is g.S.AsStr.text (λ (all : Vec (String Global) Global). map string_bytes all.items) c.with_words.result _ _ c.loop-rest.rest.now c.word-item.result c.as_str.result.now
    (omega (arith, c.in-len1-up.len_at_least)) c.word-item.is c.as_str.ensures (sym c.eq.ensures ∙ c.if-eq.true) c.loop-rest.invariant c.with_words.ensures

pub returns : goal.returns
returns g c = none_left g.S.AsStr.text _ _ c.loop-rest.rest.now c.loop-rest.invariant (search rules)
