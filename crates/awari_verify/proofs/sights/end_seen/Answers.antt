use Rattle.awari_verify.proofs.SightLemmas.{SeesEnd-end}
use Rattle.awari_verify.proofs.sights.end_seen.Goals as goal

pub returns : goal.returns
returns c = rw (← c.board.ensures) (SeesEnd-end c.board.result c.end.result c.end.ensures.none c.end.ensures.some)
