use Rattle.std.proofs.Common.{rules}
use Rattle.awari_verify.proofs.rules.keeps_lost.Goals as goal

pub returns-then-some_takes : goal.returns-then-some_takes
returns-then-some_takes c = search rules
