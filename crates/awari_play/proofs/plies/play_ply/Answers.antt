use Rattle.std.proofs.Common.{SFits, ap, arith, sum, ◌∙◌, rules, w16}
use Rattle.std.proofs.lemmas.Int.{to_z-of_z}
use Rattle.awari_board.specs.Rules.{captured, next_board}
use Rattle.awari_play.proofs.Lasting.{err_same, refused_at}
use Rattle.awari_play.proofs.PlyLaws.{told-ply}
use Rattle.awari_play.proofs.plies.play_ply.Goals as goal

pub returns-clause-ply : goal.returns-clause-ply
returns-clause-ply g c = λ images says board pits shows.
    let fits : SFits w16 c.running.result = search rules in
    let move = c.in-Ok.ensures.moved in
    let here = c.board.ensures.shown in
    told-ply images board pits _ _ _ _ _ _ c.args.game.now c.step.new.self shows (c.in-Ok-step.ensures.played board pits shows)
    (move.captures ∙ ap (λ p. captured p c.args.pit) here) (to_z-of_z w16 _ fits ∙ c.running.ensures) (move.leaves ∙ ap (λ p. next_board p c.args.pit) here) (c.in_ok-entry.ensures.entry images says)

pub returns-in_err-entry-clause-fault : goal.returns-in_err-entry-clause-fault
returns-in_err-entry-clause-fault g c =
    err_same c.from_residual.result _ _ c.from_residual.ensures.1 (
    refused_at _ _ _ _ (omega (arith, c.in-Ok.ensures.kept, ap sum c.board.ensures.shown, c.requires.known)) c.in_err-entry.ensures.fault)
