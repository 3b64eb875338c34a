use Rattle.std.proofs.Common.{SFits, rules, w8, w16}
use Rattle.std.proofs.lemmas.Int.{to_z-of_z}
use Rattle.awari_game.proofs.Outcomes.{at_end}
use Rattle.awari_game.proofs.games.Game.outcome.Goals as goal

pub returns-in-Some-clause-some : goal.returns-in-Some-clause-some
returns-in-Some-clause-some c =
    let given : SFits w16 c.with_taken.result = search rules in
    let held : SFits w16 c.self.inside.running = search rules in
    let gained : SFits w16 c.from.result = search rules in
    let end : SFits w8 c.in-Some.gain = search rules in
    let is = rw (to_z-of_z w16 _ held, to_z-of_z w16 _ gained, c.from.ensures, to_z-of_z w8 _ end) at c.with_taken.ensures in
    rw (to_z-of_z w16 _ given, ← c.self.view_is) (λ s outcome shown. at_end _ _ s c.in-Some.gain _ outcome shown ((c.in-Some.ensures.some c.in-Some.gain).0 (search rules)) is)
