use Rattle.std.proofs.Common.{arith}
use Rattle.std.proofs.lemmas.Int.{ints}
use Rattle.awari_play.proofs.HoldingOut.{far_planned, far_stubborn_ok}
use Rattle.awari_play.proofs.longest.pit_by.Goals as goal

pub returns-then-entry-gt0-clause-due : goal.returns-then-entry-gt0-clause-due
returns-then-entry-gt0-clause-due g c = λ images says. far_planned images c.args.board.now c.args.entry (c.requires.far images says) (omega (arith, ints, c.if-entry-gt0.true))

pub returns-clause-due : goal.returns-clause-due
returns-clause-due g c = λ images says.
    far_stubborn_ok images c.args.board.now c.args.entry c.stubborn_pit.result (c.requires.far images says) (λ up. omega (arith, ints, c.if-entry-gt0.false, up)) (c.stubborn_pit.ensures.holds images says) (c.stubborn_pit.ensures.some images says)
