use mir.Syntax.{w8}
use mir.Val.{of_z, to_z}
use Rattle.std.proofs.Common.{◌≡◌, ◌-ℤ◌, Option, ap, pos, refl, rules, subst, sym, ◌∙◌}
use Rattle.std.specs.Prelude.{IfSome, IsNone}
use Rattle.awari_facts.proofs.FactLaws.{gained-legal, gained-none}
use Rattle.awari_facts.proofs.SourceLaws.{value_there}
use Rattle.awari_facts.specs.Left.{IsLeft}
use Rattle.awari_facts.specs.Sources.{images_of}
use Rattle.awari_facts.specs.declared.looks.Left.{Left}
use Rattle.awari_facts.proofs.looks.gained_with.Goals as goal

pub returns-in_default : goal.returns-in_default
returns-in_default c = λ board pit some none. gained-none (images_of c.args.levels) board pit (none (subst (λ (o : Option Left). IsNone o) (sym c.in_default.is) refl))

pub returns : goal.returns
returns c = λ board pit some none.
    let at : IsLeft board pit c.in-Some.left = subst (λ (o : Option Left). IfSome o (IsLeft board pit)) c.in-Some.is some in
    let byte : to_z w8 (of_z w8 c.value_at-value.result) ≡ c.value_at-value.result = search rules in
    gained-legal (images_of c.args.levels) board pit c.in-Some.left.captured at.next c.value_at-value.result c.gain_of.result at.moved
    (value_there (images_of c.args.levels) at.next _ _ c.value_at-value.result c.value_at-value.ensures at.stones at.rank) c.gain_of.ensures.captured
    (c.gain_of.ensures.value ∙ ap (λ v. pos c.in-Some.left.captured -ℤ v) byte)
