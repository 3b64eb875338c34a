use Rattle.std.proofs.Common.{◌<◌, ◌∙◌, subst, sum, sym}
use Rattle.awari_play.specs.Worths.{AreWorths}
use Rattle.awari_play.proofs.Lasting.{err_same, refused_at, refused_before}
use Rattle.awari_play.proofs.weighing.weigh_by.Goals as goal

pub returns-clause-weighed : goal.returns-clause-weighed
returns-clause-weighed g c = λ images says.
    let laws = g.met.T.Table.lasting in
    let once = laws.says _ _ images c.entry.ensures.keeps says in
    let twice = laws.says _ _ images c.worths_of.ensures.keeps once in
    record {
      known = subst (λ n. sum c.args.board.now < n) (sym (laws.all _ images says)) c.requires;
      entry = c.in_ok-entry.ensures.entry images says;
      worths = subst (AreWorths images c.args.board.now) (sym (c.in_ok-moves.ensures.worths ∙ c.as_slice.ensures.value)) (c.in_ok-worths.ensures.worths images once);
      replies = c.in_ok-moves.ensures.replies images twice;
    }

pub returns-in_err-entry-clause-fault : goal.returns-in_err-entry-clause-fault
returns-in_err-entry-clause-fault g c =
    err_same c.from_residual.result _ _ c.from_residual.ensures.1 (
    refused_at _ _ _ _ c.requires c.in_err-entry.ensures.fault)

pub returns-in_err-worths-clause-fault : goal.returns-in_err-worths-clause-fault
returns-in_err-worths-clause-fault g c =
    err_same c.from_residual-in_err-worths.result _ _ c.from_residual-in_err-worths.ensures.1 (
    refused_before _ g.met.T.Table.lasting _ _ _ c.entry.ensures.keeps c.in_err-worths.ensures.fault)

pub returns-in_err-moves-clause-fault : goal.returns-in_err-moves-clause-fault
returns-in_err-moves-clause-fault g c =
    let laws = g.met.T.Table.lasting in
    err_same c.from_residual-in_err-moves.result _ _ c.from_residual-in_err-moves.ensures.1 (
    refused_before _ laws _ _ _ c.entry.ensures.keeps (refused_before _ laws _ _ _ c.worths_of.ensures.keeps c.in_err-moves.ensures.fault))
