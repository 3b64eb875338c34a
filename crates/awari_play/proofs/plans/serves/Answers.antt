use Rattle.std.proofs.Common.{◌∙◌, ap, sym, subst}
use Rattle.awari_board.specs.Rules.{IsMove}
use Rattle.awari_table.specs.Certificate.{plies}
use Rattle.awari_table.specs.Images.{table_of}
use Rattle.awari_play.specs.Planning.{with_top}
use Rattle.awari_play.proofs.Serving.{serves_by}
use Rattle.awari_play.proofs.plans.serves.Goals as goal

pub returns : goal.returns
returns c =
    let own = c.requires.own in
    let reached = c.reached_by.ensures in
    let next = c.play.result.board in
    let t = table_of (with_top c.args.shelf.now c.args.entries.now) in
    serves_by t _ _ next c.args.own c.reached_by.result _ (subst (λ n. IsMove c.args.board.now c.args.pit n next) (sym reached.captured) c.play.ensures.moved)
    (ap (λ e. e.value) own) (ap (λ e. e.dist) own) reached.value (reached.plies ∙ ap (λ n. plies n (t.dist next)) (sym reached.captured)) c.gains.ensures
