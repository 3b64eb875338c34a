use Rattle.std.proofs.Common.{◌≡◌, [], arith, refl, rules}
use Rattle.std.proofs.lemmas.List.{get_or_default}
use Rattle.std.proofs.lemmas.List.Elements.{All-push}
use Rattle.awari_play.specs.Worths.{IsReplied}
use Rattle.awari_play.proofs.Lasting.{err_same, refused_before}
use Rattle.awari_play.proofs.Worthing.{weighed-more}
use Rattle.awari_play.proofs.weighing.with_replies.Goals as goal

pub loop-worth-init : goal.loop-worth-init
loop-worth-init g c =
    let empty : c.new-moves.result.items ≡ [] = search rules in
    record {
      few = search rules;
      worths = rw empty refl;
      replies = λ images says. rw empty (λ k d low. absurd (omega (arith, low)));
      keeps = g.met.T.Table.lasting.itself _;
    }

pub loop-worth-preserved : goal.loop-worth-preserved
loop-worth-preserved g c =
    let i = c.loop-worth.invariant in
    let laws = g.met.T.Table.lasting in
    let inside = c.loop-worth-test.true in
    record {
      few = omega (arith, i.few, c.push.ensures.len);
      worths = weighed-more _ _ c.args.worths.now c.loop-worth.worth-index _ _ inside (get_or_default _ _ _ _ inside) c.in_ok-weighed_move.ensures.worth i.worths c.push.ensures.items;
      replies = λ images says.
          rw c.push.ensures.items (All-push (IsReplied c.args.asked images c.args.board.now) _ _ (i.replies images says) (c.in_ok-weighed_move.ensures.replies images (laws.says _ _ images i.keeps says)));
      keeps = laws.on _ _ _ i.keeps c.weighed_move.ensures.keeps;
    }

pub returns-in_err-weighed_move-clause-fault : goal.returns-in_err-weighed_move-clause-fault
returns-in_err-weighed_move-clause-fault g c =
    err_same c.from_residual.result _ _ c.from_residual.ensures.1 (
    refused_before _ g.met.T.Table.lasting _ _ _ c.loop-worth.invariant.keeps c.in_err-weighed_move.ensures.fault)
