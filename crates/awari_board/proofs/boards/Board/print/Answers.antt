use Rattle.std.proofs.Common.{◌≡◌, ◌++◌, get_or, ap, ◌∙◌, sym, arith}
use Rattle.awari_board.specs.Text.{digits, mark_after, text_to, text_of}
use Rattle.awari_board.proofs.Writing.{text_to-more}
use Rattle.awari_board.proofs.boards.Board.print.Goals as goal

pub loop-place-preserved : goal.loop-place-preserved
loop-place-preserved c =
    let before = c.loop-place.invariant in
    record {
      room = omega (arith, c.push_pit.ensures.room, before.room);
      items =
          c.push_pit.ensures.items ∙ ap (λ b. c.loop-place.text.items ++ (digits (get_or b c.loop-place.place 0) ++ mark_after c.loop-place.place)) c.self.view_is
          ∙ ap (λ t. t ++ (digits (get_or c.args.self.now c.loop-place.place 0) ++ mark_after c.loop-place.place)) before.items
          ∙ sym (text_to-more c.args.self.now c.loop-place.place);
    }

pub returns-clause-text : goal.returns-clause-text
unfolding text_of
returns-clause-text c = let end : c.loop-place.place ≡ 12 = omega arith in c.loop-place.invariant.items ∙ ap (text_to c.args.self.now) end
