use mir.Syntax.{w64}
use mir.Val.{of_z, to_z}
use Rattle.std.proofs.Common.{◌≡◌, ap, rules, sym, ◌∙◌}
use Rattle.awari_facts.specs.Sources.{images_of}
use Rattle.awari_queries.specs.Orders.{key_of}
use Rattle.awari_levels.proofs.WantedLaws.{key-none, key-some}
use Rattle.awari_levels.specs.Listing.{sort_key}
use Rattle.awari_levels.proofs.wanted.key_on.Goals as goal

pub returns-then-not-is_within : goal.returns-then-not-is_within
returns-then-not-is_within c = λ board at. key-none c.args.wanted.now (images_of c.args.levels) board (sym (c.is_within.ensures board at) ∙ c.if-not-is_within.true)

pub returns-in-None : goal.returns-in-None
returns-in-None c = λ board at.
    key-some c.args.wanted.now (images_of c.args.levels) board _ (sym (c.is_within.ensures board at) ∙ c.if-not-is_within.false) (ap (λ order. sort_key order (images_of c.args.levels) board) (sym c.in-None.is))

pub returns-in-Some : goal.returns-in-Some
returns-in-Some c = λ board at.
    let back : to_z w64 (of_z w64 c.key_of.result) ≡ c.key_of.result = search rules in
    let number : to_z w64 (of_z w64 c.number_of.result) ≡ c.number_of.result = search rules in
    key-some c.args.wanted.now (images_of c.args.levels) board _ (sym (c.is_within.ensures board at) ∙ c.if-not-is_within.false)
    (back ∙ c.key_of.ensures ∙ ap (key_of c.in-Some.order) (number ∙ c.number_of.ensures.number board at) ∙ ap (λ order. sort_key order (images_of c.args.levels) board) (sym c.in-Some.is))
