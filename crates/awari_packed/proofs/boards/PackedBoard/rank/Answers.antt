use Rattle.std.proofs.Common.{arith}
use Rattle.awari_rank.proofs.Ranking.{rank_of-below}
use Rattle.awari_packed.specs.Packed.{pits_of}
use Rattle.awari_packed.proofs.Digits.{long-pits_of}
use Rattle.awari_packed.proofs.boards.PackedBoard.rank.Goals as goal

pub returns-clause-below : goal.returns-clause-below
returns-clause-below c = rw (← c.self.view_is) (omega (arith, c.rank.ensures, rank_of-below (pits_of c.self.inside.bits) (long-pits_of c.self.inside.bits)))
