use Rattle.std.proofs.Common.{refl}
use Rattle.awari_crew.proofs.Beginning.{comes_home}
use Rattle.awari_crew.proofs.homes.stay.Goals as goal

pub returns-clause-home : goal.returns-clause-home
returns-clause-home g c = comes_home c.args.member _ c.work.new.self _ refl refl refl refl c.in_ok-member.ensures c.in_ok-work.ensures.kept refl refl
