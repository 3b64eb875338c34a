use Rattle.awari_table.proofs.CertificateLemmas.{right_from_shelf}
use Rattle.awari_table.proofs.laws.boards_are_right.Goals as goal

pub returns : goal.returns
returns c = right_from_shelf
