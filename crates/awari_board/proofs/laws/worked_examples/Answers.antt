use Rattle.std.proofs.Common.{refl, arith}
use Rattle.awari_board.proofs.Legal.{legal_is, ended_is}
use Rattle.awari_board.proofs.Moving.{IsMove-from_tests}
use Rattle.awari_board.proofs.laws.worked_examples.Goals as goal

pub returns-clause-grand_slam : goal.returns-clause-grand_slam
returns-clause-grand_slam c = IsMove-from_tests _ _ _ _ refl refl refl

pub returns-clause-after_grand_slam : goal.returns-clause-after_grand_slam
returns-clause-after_grand_slam c = record { stuck = (ended_is _).0 refl; gains = refl }

pub returns-clause-capture : goal.returns-clause-capture
returns-clause-capture c = IsMove-from_tests _ _ _ _ refl refl refl

pub returns-clause-run : goal.returns-clause-run
returns-clause-run c = IsMove-from_tests _ _ _ _ refl refl refl

pub returns-clause-lap : goal.returns-clause-lap
returns-clause-lap c = IsMove-from_tests _ _ _ _ refl refl refl

pub returns-clause-second_lap : goal.returns-clause-second_lap
returns-clause-second_lap c = IsMove-from_tests _ _ _ _ refl refl refl

pub returns-clause-feeds : goal.returns-clause-feeds
returns-clause-feeds c = (legal_is _ _).0 refl

pub returns-clause-must_feed : goal.returns-clause-must_feed
returns-clause-must_feed c = (omega arith, (5, (legal_is _ _).0 refl), omega arith, refl, λ s first last. omega arith)

pub returns-clause-empty_pit : goal.returns-clause-empty_pit
returns-clause-empty_pit c = (omega arith, (5, (legal_is _ _).0 refl), refl)

pub returns-clause-no_pit : goal.returns-clause-no_pit
returns-clause-no_pit c = omega arith

pub returns-clause-ended : goal.returns-clause-ended
returns-clause-ended c = (omega arith, _, record { stuck = (ended_is _).0 refl; gains = refl })

pub returns-clause-end_with_own_stones : goal.returns-clause-end_with_own_stones
returns-clause-end_with_own_stones c = record { stuck = (ended_is _).0 refl; gains = refl }

pub returns-clause-end_with_none : goal.returns-clause-end_with_none
returns-clause-end_with_none c = record { stuck = (ended_is _).0 refl; gains = refl }
