use mir.Syntax.{w8, w64}
use mir.Val.{of_z, to_z}
use Rattle.std.proofs.Common.{◌≡◌, ap, pos, rules, sym, ◌∙◌, arith}
use Rattle.awari_table.specs.declared.images.Entry.{Entry}
use Rattle.awari_facts.specs.Facts.{gains_in, greediest, legal_moves, lost_by, lost_by_moving, moves_gaining, other_value}
use Rattle.awari_facts.specs.Numbers.{number_in}
use Rattle.awari_facts.specs.Sources.{images_of}
use Rattle.awari_facts.proofs.numbers.looked_up.Goals as goal

pub gains_of-requires : goal.gains_of-requires
gains_of-requires c = omega (arith, c.requires.level, c.board-board.ensures.stones)

pub gains_of-requires-in-Trap : goal.gains_of-requires-in-Trap
gains_of-requires-in-Trap c = omega (arith, c.requires.level, c.board-board.ensures.stones)

pub other_value-requires : goal.other_value-requires
other_value-requires c = omega (arith, c.requires.level, c.board-board.ensures.stones)

pub other_value-requires-in-Waits : goal.other_value-requires-in-Waits
other_value-requires-in-Waits c = omega (arith, c.requires.level, c.board-board.ensures.stones)

pub returns-in-Keep-clause-number : goal.returns-in-Keep-clause-number
unfolding number_in
returns-in-Keep-clause-number c = λ board at.
    let images = images_of c.args.levels in
    let back : to_z w64 (of_z w64 c.from.result) ≡ c.from.result = search rules in
    let byte : to_z w8 (of_z w8 c.args.seen.now.entry.value) ≡ c.args.seen.now.entry.value = search rules in
    back ∙ c.from.ensures
    ∙ ap (λ n. pos n) (c.moves_gaining.ensures ∙ ap (λ v. moves_gaining v c.gains_of.result) byte ∙ ap (moves_gaining c.args.seen.now.entry.value) (c.gains_of.ensures ∙ ap (gains_in images) (c.board-board.ensures.at images board at))
    ∙ ap (λ (e : Entry). moves_gaining e.value (gains_in images board)) at.entry)
    ∙ ap (λ column. number_in images column board) (sym c.in-Keep.is)

pub returns-in-Trap-clause-number : goal.returns-in-Trap-clause-number
unfolding number_in
returns-in-Trap-clause-number c = λ board at.
    let images = images_of c.args.levels in
    let back : to_z w64 (of_z w64 c.trap_by.result) ≡ c.trap_by.result = search rules in
    let byte : to_z w8 (of_z w8 c.args.seen.now.entry.value) ≡ c.args.seen.now.entry.value = search rules in
    back ∙ c.trap_by.ensures.lost ∙ ap (λ v. lost_by v (greediest c.gains_of-in-Trap.result)) byte
    ∙ ap (λ moves. lost_by c.args.seen.now.entry.value (greediest moves)) (c.gains_of-in-Trap.ensures ∙ ap (gains_in images) (c.board-board.ensures.at images board at))
    ∙ ap (λ (e : Entry). lost_by e.value (greediest (gains_in images board))) at.entry
    ∙ ap (λ column. number_in images column board) (sym c.in-Trap.is)

pub returns-in-Other-clause-number : goal.returns-in-Other-clause-number
unfolding number_in
returns-in-Other-clause-number c = λ board at.
    let images = images_of c.args.levels in
    let back : to_z w64 (of_z w64 c.from-in-Other.result) ≡ c.from-in-Other.result = search rules in
    let byte : to_z w8 (of_z w8 c.other_value.result) ≡ c.other_value.result = search rules in
    back ∙ c.from-in-Other.ensures ∙ byte ∙ c.other_value.ensures ∙ ap (other_value images) (c.board-board.ensures.at images board at)
    ∙ ap (λ column. number_in images column board) (sym c.in-Other.is)

pub returns-in-Waits-clause-number : goal.returns-in-Waits-clause-number
unfolding number_in
returns-in-Waits-clause-number c = λ board at.
    let images = images_of c.args.levels in
    let back : to_z w64 (of_z w64 c.lost_by_moving.result) ≡ c.lost_by_moving.result = search rules in
    let byte : to_z w8 (of_z w8 c.args.seen.now.entry.value) ≡ c.args.seen.now.entry.value = search rules in
    let other : to_z w8 (of_z w8 c.other_value-in-Waits.result) ≡ c.other_value-in-Waits.result = search rules in
    let here = c.board-board.ensures.at images board at in
    back ∙ c.lost_by_moving.ensures.lost
    ∙ ap (λ v. lost_by_moving c.legal_moves.result v (to_z w8 (of_z w8 c.other_value-in-Waits.result))) byte
    ∙ ap (lost_by_moving c.legal_moves.result c.args.seen.now.entry.value) (other ∙ c.other_value-in-Waits.ensures ∙ ap (other_value images) here)
    ∙ ap (λ n. lost_by_moving n c.args.seen.now.entry.value (other_value images board)) (c.legal_moves.ensures ∙ ap legal_moves here)
    ∙ ap (λ (e : Entry). lost_by_moving (legal_moves board) e.value (other_value images board)) at.entry
    ∙ ap (λ column. number_in images column board) (sym c.in-Waits.is)
