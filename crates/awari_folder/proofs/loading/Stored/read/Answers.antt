use Rattle.std.proofs.Common.{Bor, ℕ, List, Some, subst}
use Rattle.std.specs.Prelude.{IfErr}
use Rattle.awari_streams.specs.Counted.{inner_of}
use Rattle.awari_folder.specs.NextFile.{IsFileFault}
use Rattle.awari_folder.proofs.Placing.{read_as}
use Rattle.awari_folder.proofs.loading.Stored.read.Goals as goal

pub returns-clause-fault : goal.returns-clause-fault
returns-clause-fault c =
    subst (λ (b : Bor (List ℕ)). IfErr c.begin.result (IsFileFault c.args.self.now.shelf c.args.self.now.digest b.now)) c.new.ensures.inner
    (read_as (Some (inner_of c.new.result).now) (Some (inner_of c.read_unsealed-read.new.reader).now) c.read_unsealed-read.result
    (λ (bytes : List ℕ). IfErr c.begin.result (IsFileFault c.args.self.now.shelf c.args.self.now.digest bytes)) c.read_unsealed-read.ensures.found c.read_unsealed-read.ensures.fault c.begin.ensures.fault)
