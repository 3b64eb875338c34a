use Rattle.std.proofs.Common.{arith}
use Rattle.awari_builds.proofs.serving.run_serve.Goals as goal

pub returns-in-Err-clause-served : goal.returns-in-Err-clause-served
returns-in-Err-clause-served g c = λ done. absurd (omega arith)
