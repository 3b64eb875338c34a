use Rattle.std.proofs.Common.{◌≤◌, inl, refl, subst, length, arith, rules}
use Rattle.awari_exports.specs.Held.{HeldView, IsBegun}
use Rattle.awari_exports.proofs.held.Held.begin.Goals as goal

pub returns-in-Ok-clause-begins : goal.returns-in-Ok-clause-begins
returns-in-Ok-clause-begins c =
    let low : length c.args.self.now.stored.shelf ≤ 24 = search rules in
    let begun : IsBegun c.self.inside.stored.shelf c.in-Ok.draft = record { low = search rules; level = c.in-Ok.ensures.level; heard = c.in-Ok.ensures.heard } in
    record {
      all = λ high. absurd (omega (arith, high, low));
      begun = λ _. inl (refl, subst (λ (v : HeldView). IsBegun v.stored.shelf c.in-Ok.draft) c.self.view_is begun);
    }
