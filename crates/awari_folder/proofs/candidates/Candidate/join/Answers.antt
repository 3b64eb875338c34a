use Rattle.std.proofs.Common.{rules, ◌≡◌, ◌⊎◌, true, refl, sym, subst}
use Rattle.awari_folder.specs.Candidates.{CandidateView, IsCandidate}
use Rattle.awari_folder.proofs.Sharing.{joined}
use Rattle.awari_folder.proofs.candidates.Candidate.join.Goals.{then-self, else-self}
use Rattle.awari_folder.proofs.candidates.Candidate.join.Goals as goal

pub returns-clause-candidate : goal.returns-clause-candidate
returns-clause-candidate c = λ shelf yes a b.
    let one : c.args.other.now.file.loaded.digest ≡ c.args.self.now.file.loaded.digest = search rules in
    let same : c.other.inside.file.value ≡ c.self.inside.file.value = search rules in
    let which : c.if-self.self ≡ true → (c.self.inside.sealed ≡ true) ⊎ (c.other.inside.sealed ≡ true) = search rules in
    joined shelf _ _ _ (subst (λ (v : CandidateView). IsCandidate shelf v) (sym c.self.view_is) a) (subst (λ (v : CandidateView). IsCandidate shelf v) (sym c.other.view_is) b)
    same refl which c.join.ensures.share
