use Rattle.std.proofs.Common.{rules, refl}
use Rattle.awari.proofs.main.Goals as goal

pub run-status-requires : goal.run-status-requires
run-status-requires g c κs = (λ a m. m, (search rules, (search rules, (search rules, (refl, tt)))))
