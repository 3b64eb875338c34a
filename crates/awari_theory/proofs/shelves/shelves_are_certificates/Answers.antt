use Rattle.awari_theory.proofs.OlderLemmas.{IsCertificate-shelf}
use Rattle.awari_theory.proofs.shelves.shelves_are_certificates.Goals as goal

pub returns : goal.returns
returns c = IsCertificate-shelf
