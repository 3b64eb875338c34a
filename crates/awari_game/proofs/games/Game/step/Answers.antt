use Rattle.std.proofs.Common.{SFits, refl, rules, w16}
use Rattle.std.proofs.lemmas.Int.{to_z-of_z}
use Rattle.std.proofs.lemmas.Result.{err_from_is_err_and}
use Rattle.awari_game.proofs.Showing.{running_kept, Shows-step}
use Rattle.awari_game.proofs.games.Game.step.Goals as goal

pub returns-in_err-moved-clause-refused : goal.returns-in_err-moved-clause-refused
returns-in_err-moved-clause-refused c =
    let p = err_from_is_err_and c.from_residual.result c.from_residual.ensures.1 in
    rw (p.1, p.2, ← c.self.view_is) c.in_err-moved.ensures.refused

pub invariant_of-self : goal.invariant_of-self
invariant_of-self c =
    let given : SFits w16 c.with_taken.result = search rules in
    let held : SFits w16 c.self.inside.running = search rules in
    let came : SFits w16 c.from.result = search rules in
    let is = rw (to_z-of_z w16 _ held, to_z-of_z w16 _ came, c.from.ensures) at c.with_taken.ensures in
    let kept = running_kept c.self.inside.first_moves c.self.inside.running _ _ _ c.in_ok-moved.moved.captured is c.in_ok-moved.ensures.kept c.self.invariant.low c.self.invariant.high in
    rw (to_z-of_z w16 _ given) (record { board = c.in_ok-moved.ensures.board; low = kept.0; high = kept.1 })

pub returns-clause-played : goal.returns-clause-played
returns-clause-played c =
    let given : SFits w16 c.with_taken.result = search rules in
    let held : SFits w16 c.self.inside.running = search rules in
    let came : SFits w16 c.from.result = search rules in
    let is = rw (to_z-of_z w16 _ held, to_z-of_z w16 _ came, c.from.ensures) at c.with_taken.ensures in
    rw (to_z-of_z w16 _ given, ← c.self.view_is)
    (Shows-step _ _ c.args.pit c.in_ok-moved.moved.captured (record { move = c.in_ok-moved.ensures.moved; running = is; first_moves = refl; quiet = c.quiet_after.ensures }))
