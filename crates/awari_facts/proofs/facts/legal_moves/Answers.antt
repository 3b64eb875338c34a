use Rattle.std.proofs.Common.{arith, ◌∙◌, sym}
use Rattle.awari_board.specs.Tests.{is_legal}
use Rattle.awari_facts.proofs.FactLaws.{count-next, legal-test}
use Rattle.awari_facts.proofs.facts.legal_moves.Goals.{then-legal, else-legal}
use Rattle.awari_facts.proofs.facts.legal_moves.Goals as goal

pub loop-pit-preserved : goal.loop-pit-preserved
loop-pit-preserved c =
    let i = c.loop-pit.invariant in
    let test = legal-test c.args.board.now c.loop-pit.pit c.legal.result c.legal.ensures in
    elim c.if-legal.branch [
      | then-legal w ↦ record {
        few = omega (arith, i.few, w.count-is);
        counted = count-next (is_legal c.args.board.now) c.loop-pit.pit c.loop-pit.count _ _ i.counted (sym w.if-legal.true ∙ test) w.count-is;
      }
      | else-legal w ↦ record {
        few = omega (arith, i.few, w.count-is);
        counted = count-next (is_legal c.args.board.now) c.loop-pit.pit c.loop-pit.count _ _ i.counted (sym w.if-legal.false ∙ test) (omega (arith, w.count-is));
      }
    ]
