use mir.Syntax.{w8}
use mir.Val.{of_z, to_z}
use Rattle.std.proofs.Common.{◌≡◌, ap, rules, sym, ◌∙◌}
use Rattle.awari_facts.specs.Facts.{gains_in}
use Rattle.awari_facts.specs.Sources.{images_of}
use Rattle.awari_levels.specs.Listing.{weighs}
use Rattle.awari_levels.proofs.wanted.weighs_in.Goals as goal

pub returns-then-not-asks_moves : goal.returns-then-not-asks_moves
returns-then-not-asks_moves c = sym (c.asks_moves.ensures.none c.if-not-asks_moves.true (gains_in (images_of c.args.levels) c.args.board.now) c.args.value)

pub returns : goal.returns
returns c =
    let byte : to_z w8 (of_z w8 c.args.value) ≡ c.args.value = search rules in
    c.weighs.ensures ∙ ap (λ v. weighs c.args.spans.now c.gains_of.result v) byte ∙ ap (λ moves. weighs c.args.spans.now moves c.args.value) c.gains_of.ensures
