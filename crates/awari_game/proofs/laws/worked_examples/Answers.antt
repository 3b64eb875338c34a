use Rattle.std.proofs.Common.{refl, inl, pos}
use Rattle.awari_board.proofs.Legal.{ended_is}
use Rattle.awari_game.proofs.laws.worked_examples.Goals as goal

pub returns-clause-capture : goal.returns-clause-capture
returns-clause-capture c = refl

pub returns-clause-outcome : goal.returns-clause-outcome
returns-clause-outcome c = inl (pos 1, record { stuck = (ended_is _).0 refl; gains = refl }, refl)

pub returns-clause-quiet : goal.returns-clause-quiet
returns-clause-quiet c = refl
