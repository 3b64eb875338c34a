use Rattle.std.proofs.Common.{ℕ, List, subst, sym}
use Rattle.std.specs.Prelude.{Option}
use Rattle.awari_folder.specs.Candidates.{CandidateView}
use Rattle.awari_folder.specs.NextFile.{IsFileFault}
use Rattle.awari_exports.specs.Held.{HeldView, IsReadIn}
use Rattle.awari_exports.proofs.held.Held.accept.Goals as goal

pub returns-in-Err-clause-fault : goal.returns-in-Err-clause-fault
returns-in-Err-clause-fault c =
    subst (λ (v : HeldView). (bytes : List ℕ) → IsReadIn v.candidate bytes → IsFileFault v.stored.shelf v.stored.digest bytes c.in-Err.fault) c.self.view_is
    (λ bytes from. c.in-Err.ensures.fault bytes (subst (λ (o : Option CandidateView). IsReadIn o bytes) (sym c.in-Some.ensures.value) from))
