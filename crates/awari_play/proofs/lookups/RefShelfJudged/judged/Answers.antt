use Rattle.std.proofs.Common.{arith, subst, sym}
use Rattle.awari_table.proofs.CertificateLemmas.{right_from_shelf}
use Rattle.awari_table.specs.Certificate.{IsRight}
use Rattle.awari_table.specs.Images.{table_of}
use Rattle.awari_play.proofs.Lasting.{ok_all}
use Rattle.awari_play.proofs.lookups.RefShelfJudged.judged.Goals as goal

pub returns-clause-right : goal.returns-clause-right
returns-clause-right c = λ images is.
    let low = c.if-prove.false in
    let right = right_from_shelf _ c.levels.ensures.shelf _ c.stones.ensures.board (omega (arith, low, c.stones.ensures.stones, c.levels.ensures.levels)) in
    ok_all c.entry.result _ (subst (λ all. IsRight (table_of all) c.args.board.now) (sym is) right)
