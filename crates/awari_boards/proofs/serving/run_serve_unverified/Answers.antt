use Rattle.awari_boards.proofs.SaidLaws.{said_before}
use Rattle.awari_boards.proofs.serving.run_serve_unverified.Goals as goal

pub returns-in-Ok-served-clause-served : goal.returns-in-Ok-served-clause-served
returns-in-Ok-served-clause-served g c = λ _. record {
  opened = c.in-Ok.opened;
  framed = λ names are. c.in-Ok.ensures.exact names are;
  served = said_before _ _ c.in-Ok.ensures.reads.unchanged.stands _ _ _ _ c.in-Ok-served.ensures.served;
}
