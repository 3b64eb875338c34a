use mir.Syntax.{w8}
use mir.Val.{of_z, to_z}
use Rattle.std.proofs.Common.{◌≡◌, ap, rules, sym, ◌∙◌}
use Rattle.awari_facts.specs.Facts.{gains_in, legal_moves}
use Rattle.awari_facts.specs.Sources.{images_of}
use Rattle.awari_table.specs.Images.{entry_of}
use Rattle.awari_levels.proofs.WantedLaws.{weighed-last, weighed-none}
use Rattle.awari_levels.specs.Listing.{turns, weighs}
use Rattle.awari_levels.proofs.wanted.is_weighed.Goals as goal

pub returns-then-not-weighs_in : goal.returns-then-not-weighs_in
returns-then-not-weighs_in c = λ worth.
    let byte : to_z w8 (of_z w8 c.args.value) ≡ c.args.value = search rules in
    weighed-none c.args.wanted.now (images_of c.args.levels) c.args.board.now c.args.value worth
    (ap (weighs c.args.wanted.now.spans (gains_in (images_of c.args.levels) c.args.board.now)) (sym byte) ∙ sym c.weighs_in.ensures ∙ c.if-not-weighs_in.true)

pub returns-then-not-asks_turned : goal.returns-then-not-asks_turned
returns-then-not-asks_turned c = λ worth.
    let byte : to_z w8 (of_z w8 c.args.value) ≡ c.args.value = search rules in
    weighed-last c.args.wanted.now (images_of c.args.levels) c.args.board.now c.args.value _ worth
    (ap (weighs c.args.wanted.now.spans (gains_in (images_of c.args.levels) c.args.board.now)) (sym byte) ∙ sym c.weighs_in.ensures ∙ c.if-not-weighs_in.false)
    (sym (c.asks_turned.ensures.none c.if-not-asks_turned.true _ _ _))

pub returns : goal.returns
returns c = λ worth.
    let images = images_of c.args.levels in
    let byte : to_z w8 (of_z w8 c.args.value) ≡ c.args.value = search rules in
    let other : to_z w8 (of_z w8 c.other_value.result) ≡ c.other_value.result = search rules in
    weighed-last c.args.wanted.now images c.args.board.now c.args.value _ worth
    (ap (weighs c.args.wanted.now.spans (gains_in images c.args.board.now)) (sym byte) ∙ sym c.weighs_in.ensures ∙ c.if-not-weighs_in.false)
    (c.turns.ensures ∙ ap (λ v. turns c.args.wanted.now c.legal_moves.result v (to_z w8 (of_z w8 c.other_value.result))) byte ∙ ap (turns c.args.wanted.now c.legal_moves.result c.args.value) other
    ∙ ap (λ n. turns c.args.wanted.now n c.args.value c.other_value.result) c.legal_moves.ensures ∙ ap (λ v. turns c.args.wanted.now (legal_moves c.args.board.now) v c.other_value.result) worth
    ∙ ap (turns c.args.wanted.now (legal_moves c.args.board.now) (entry_of images c.args.board.now).value) c.other_value.ensures)
