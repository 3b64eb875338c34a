use Rattle.std.proofs.Common.{ap, rules, subst}
use Rattle.awari_table.specs.declared.images.Entry.{Entry}
use Rattle.awari_play.specs.Unplayed.{IsNotLegal}
use Rattle.awari_play.proofs.Lasting.{none_legal}
use Rattle.awari_play.proofs.lines.plan_by.Goals.{in_default-via-in-Some+else-legal, in_default-via-in_default}
use Rattle.awari_play.proofs.lines.plan_by.Goals as goal

pub returns-in_default-clause-fault : goal.returns-in_default-clause-fault
returns-in_default-clause-fault g c = record {
  is_board = c.requires.board;
  known = c.requires.known;
  some = c.requires.some;
  illegal = λ images says. subst (IsNotLegal c.args.board.now) (ap (λ (e : Entry). e.plan) (c.in-Ok.ensures.entry images says)) (elim c.in_default.branch [ in_default-via-in-Some+else-legal w ↦ rw w.in-Some.is (λ legal. let yes = w.legal.ensures.1 legal in let no = w.if-legal.false in search rules) | in_default-via-in_default w ↦ none_legal _ _ w.in_default.not-Some ]);
}
