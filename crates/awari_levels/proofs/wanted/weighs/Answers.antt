use mir.Syntax.{w8, w64}
use mir.Val.{of_z, to_z}
use Rattle.std.proofs.Common.{◌≡◌, ◌&&◌, ap, pos, rules, sym, ◌∙◌}
use Rattle.awari_facts.specs.Facts.{greediest, lost_by, moves_gaining}
use Rattle.awari_queries.specs.Spans.{is_in}
use Rattle.awari_levels.proofs.wanted.weighs.Goals as goal

pub returns-then-is_in : goal.returns-then-is_in
returns-then-is_in c =
    let byte : to_z w8 (of_z w8 c.args.value) ≡ c.args.value = search rules in
    let few : to_z w64 (of_z w64 c.from.result) ≡ c.from.result = search rules in
    let back : to_z w64 (of_z w64 c.trap_by-lost.result) ≡ c.trap_by-lost.result = search rules in
    let lost = c.is_in-then-is_in.ensures ∙ ap (is_in c.args.spans.now.trap) (back ∙ c.trap_by-lost.ensures.lost ∙ ap (λ v. lost_by v (greediest c.args.moves.now)) byte) in
    let kept = ap (is_in c.args.spans.now.keep) (sym (few ∙ c.from.ensures ∙ ap (λ n. pos n) (c.moves_gaining-keeping.ensures ∙ ap (λ v. moves_gaining v c.args.moves.now) byte))) ∙ sym c.is_in.ensures ∙ c.if-is_in.true in
    lost ∙ sym (ap (λ b. b && is_in c.args.spans.now.trap (lost_by c.args.value (greediest c.args.moves.now))) kept)

pub returns-else-is_in : goal.returns-else-is_in
returns-else-is_in c =
    let byte : to_z w8 (of_z w8 c.args.value) ≡ c.args.value = search rules in
    let few : to_z w64 (of_z w64 c.from.result) ≡ c.from.result = search rules in
    let kept = ap (is_in c.args.spans.now.keep) (sym (few ∙ c.from.ensures ∙ ap (λ n. pos n) (c.moves_gaining-keeping.ensures ∙ ap (λ v. moves_gaining v c.args.moves.now) byte))) ∙ sym c.is_in.ensures ∙ c.if-is_in.false in
    c.if-is_in.false ∙ sym (ap (λ b. b && is_in c.args.spans.now.trap (lost_by c.args.value (greediest c.args.moves.now))) kept)
