use mir.Syntax.{w64}
use mir.Val.{of_z, to_z}
use Rattle.std.proofs.Common.{◌≡◌, ap, rules, sym, ◌∙◌}
use Rattle.awari_queries.specs.Orders.{key_of}
use Rattle.awari_levels.proofs.WantedLaws.{key-none, key-some}
use Rattle.awari_levels.specs.Listing.{sort_key}
use Rattle.awari_levels.proofs.wanted.own_key.Goals as goal

pub returns-in-Some-false : goal.returns-in-Some-false
returns-in-Some-false c = λ images board at. key-none c.args.wanted.now images board (sym (c.in-Some-false.ensures.some images board at) ∙ c.in-Some-false.field-0-test)

pub returns-in_default : goal.returns-in_default
returns-in_default c = λ images board at.
    key-some c.args.wanted.now images board _ (sym (c.in-Some-true.ensures.some images board at) ∙ c.in-Some-true.field-0-test) (ap (λ order. sort_key order images board) (sym c.in_default.is))

pub returns : goal.returns
returns c = λ images board at.
    let back : to_z w64 (of_z w64 c.key_of.result) ≡ c.key_of.result = search rules in
    let number : to_z w64 (of_z w64 c.in-Some-own_number.number) ≡ c.in-Some-own_number.number = search rules in
    key-some c.args.wanted.now images board _ (sym (c.in-Some-true.ensures.some images board at) ∙ c.in-Some-true.field-0-test)
    (back ∙ c.key_of.ensures ∙ ap (key_of c.in-Some.order) (number ∙ c.in-Some-own_number.ensures.number images board at) ∙ ap (λ order. sort_key order images board) (sym c.in-Some.is))
