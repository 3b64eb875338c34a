use Rattle.awari_block.specs.declared.notes.Kind.TheVariants.{Won, Lost}
use Rattle.awari_segments.specs.Lists.{list_at}
use Rattle.awari_segments.proofs.Giving.{gives_as, lost_given, won_given}
use Rattle.awari_segments.proofs.by_distance.ByDistanceByKind.give.Goals as goal

pub returns-in_ok-lost-in-Lost-clause-given : goal.returns-in_ok-lost-in-Lost-clause-given
returns-in_ok-lost-in-Lost-clause-given c = (
  list_at c.args.self.now.lost c.args.wave,
  c.in_ok-lost-in-Lost.ensures.given,
  c.in_ok-lost-in-Lost.ensures.count,
  λ stake start cells at sound signed.
      let away = lost_given c.args.wave c.args.self.now stake start cells at sound signed c.give.new.self c.in_ok-lost-in-Lost.ensures.left in (gives_as c.args.kind Lost _ _ _ c.in-Lost.is away.0, away.1),
)

pub returns-in_ok-won-in-Won-clause-given : goal.returns-in_ok-won-in-Won-clause-given
returns-in_ok-won-in-Won-clause-given c = (
  list_at c.args.self.now.won c.args.wave,
  c.in_ok-won-in-Won.ensures.given,
  c.in_ok-won-in-Won.ensures.count,
  λ stake start cells at sound signed.
      let away = won_given c.args.wave c.args.self.now stake start cells at sound signed c.give-in-Won.new.self c.in_ok-won-in-Won.ensures.left in (gives_as c.args.kind Won _ _ _ c.in-Won.is away.0, away.1),
)
