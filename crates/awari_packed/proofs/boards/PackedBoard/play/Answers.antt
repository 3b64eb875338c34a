use Rattle.std.proofs.Common.{◌∙◌, ap, sym, length}
use Rattle.awari_board.proofs.Keeping.{sum-from_IsMove}
use Rattle.awari_packed.specs.Packed.{pits_of}
use Rattle.awari_packed.proofs.Digits.{long-pits_of, IsPacking-from_IsPackOf}
use Rattle.awari_packed.proofs.Whole.{IsBoard-pits_of, moved_is}
use Rattle.awari_packed.proofs.boards.PackedBoard.play.Goals as goal

pub capture-left-requires-clause-packing : goal.capture-left-requires-clause-packing
capture-left-requires-clause-packing c = IsPacking-from_IsPackOf c.sow-strewn.ensures

pub invariant_of-result : goal.invariant_of-result
invariant_of-result c = IsPacking-from_IsPackOf c.turned.ensures

pub returns-clause-moved : goal.returns-clause-moved
returns-clause-moved c = moved_is c.self.inside.bits c.args.origin c.pit-stones.result c.sow-strewn.result c.last_of.result c.capture-left.result.0 c.turned.result c.capture-left.result.1 c.self.view_is c.requires c.pit-stones.ensures c.sow-strewn.ensures c.last_of.ensures c.capture-left.ensures.stones c.capture-left.ensures.emptied c.turned.ensures

pub returns-clause-board : goal.returns-clause-board
returns-clause-board c = IsBoard-pits_of c.turned.result (IsPacking-from_IsPackOf c.turned.ensures)

pub returns-clause-kept : goal.returns-clause-kept
returns-clause-kept c =
    sum-from_IsMove c.args.self.now c.args.origin c.capture-left.result.1 (pits_of c.turned.result) (ap length (sym c.self.view_is) ∙ long-pits_of c.self.inside.bits)
    (moved_is c.self.inside.bits c.args.origin c.pit-stones.result c.sow-strewn.result c.last_of.result c.capture-left.result.0 c.turned.result c.capture-left.result.1 c.self.view_is c.requires c.pit-stones.ensures c.sow-strewn.ensures c.last_of.ensures c.capture-left.ensures.stones c.capture-left.ensures.emptied c.turned.ensures)
