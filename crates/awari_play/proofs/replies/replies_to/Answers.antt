use Rattle.std.proofs.Common.{◌∙◌, ap, arith, count_by}
use Rattle.awari_play.specs.Worths.{keeps}
use Rattle.awari_play.proofs.Lasting.{err_same, refused_at, refused_before}
use Rattle.awari_play.proofs.replies.replies_to.Goals as goal

pub returns-clause-replies : goal.returns-clause-replies
returns-clause-replies g c = λ images says.
    let is = c.in_ok-entry.ensures.entry images says in
    record {
      captured = c.in-Ok.moved.captured;
      next = c.in-Ok.moved.board;
      move = c.in-Ok.ensures.moved;
      replies = c.in_ok-replies.replies.items;
      worths = c.in_ok-replies.ensures.worths images (g.met.T.Table.lasting.says _ _ images c.entry.ensures.keeps says);
      every = c.len.ensures.value;
      keep =
          c.count_keeping.ensures ∙ ap (λ moves. count_by (keeps c.in_ok-entry.entry.value) moves) c.as_slice.ensures.value
          ∙ ap (λ value. count_by (keeps value) c.in_ok-replies.replies.items) (ap (λ e. e.value) is);
    }

pub returns-in_err-entry-clause-fault : goal.returns-in_err-entry-clause-fault
returns-in_err-entry-clause-fault g c =
    err_same c.from_residual.result _ _ c.from_residual.ensures.1 (
    refused_at _ _ _ _ (omega (arith, c.in-Ok.ensures.kept, c.requires.known)) c.in_err-entry.ensures.fault)

pub returns-in_err-replies-clause-fault : goal.returns-in_err-replies-clause-fault
returns-in_err-replies-clause-fault g c =
    err_same c.from_residual-in_err-replies.result _ _ c.from_residual-in_err-replies.ensures.1 (
    refused_before _ g.met.T.Table.lasting _ _ _ c.entry.ensures.keeps c.in_err-replies.ensures.fault)

pub worths_of-requires : goal.worths_of-requires
worths_of-requires g c =
    let stay = g.met.T.Table.lasting.levels _ _ c.entry.ensures.keeps in omega (arith, stay, c.in-Ok.ensures.kept, c.requires.known)

pub returns-in_err-replies-clause-keeps : goal.returns-in_err-replies-clause-keeps
returns-in_err-replies-clause-keeps g c = g.met.T.Table.lasting.on _ _ _ c.entry.ensures.keeps c.worths_of.ensures.keeps
