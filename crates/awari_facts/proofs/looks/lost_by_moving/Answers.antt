use mir.Syntax.{w64}
use mir.Val.{of_z, to_z}
use Rattle.std.proofs.Common.{◌≡◌, ◌-ℤ◌, ap, cond, neg_ℤ, pos, rules, sym, true, ◌∙◌}
use Rattle.awari_facts.specs.Facts.{is_zugzwang}
use Rattle.awari_facts.proofs.looks.lost_by_moving.Goals as goal

pub returns-clause-lost : goal.returns-clause-lost
returns-clause-lost c =
    let first : to_z w64 (of_z w64 c.from.result) ≡ c.args.other = search rules in
    let second : to_z w64 (of_z w64 c.from-2.result) ≡ c.args.value = search rules in
    let zugzwang : is_zugzwang c.args.moves c.args.value c.args.other ≡ true = search rules in
    let turned : to_z w64 (of_z w64 (pos 0 -ℤ to_z w64 (of_z w64 c.from.result))) ≡ neg_ℤ c.args.other = search rules in
    let less : to_z w64 (of_z w64 (to_z w64 (of_z w64 (pos 0 -ℤ to_z w64 (of_z w64 c.from.result))) -ℤ to_z w64 (of_z w64 c.from-2.result))) ≡ neg_ℤ c.args.other -ℤ c.args.value = search rules in
    less ∙ sym (ap (λ b. cond b (neg_ℤ c.args.other -ℤ c.args.value) (pos 0)) zugzwang)
