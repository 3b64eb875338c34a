use Rattle.std.proofs.Common.{◌∙◌, ap, sum, arith}
use Rattle.awari_packed.specs.Packed.{pits_of}
use Rattle.awari_packed.proofs.Digits.{long-pits_of}
use Rattle.awari_packed.proofs.Whole.{items_are}
use Rattle.awari_packed.proofs.boards.PackedBoard.board.Goals as goal

pub new-requires : goal.new-requires
new-requires c =
    omega (arith, c.self.invariant.few, ap sum (items_are (pits_of c.self.inside.bits) (long-pits_of c.self.inside.bits) c.pit.ensures c.pit-2.ensures c.pit-3.ensures c.pit-4.ensures c.pit-5.ensures c.pit-6.ensures c.pit-7.ensures c.pit-8.ensures c.pit-9.ensures c.pit-10.ensures c.pit-11.ensures c.pit-12.ensures))

pub returns : goal.returns
returns c =
    c.new.ensures.pits
    ∙ items_are (pits_of c.self.inside.bits) (long-pits_of c.self.inside.bits) c.pit.ensures c.pit-2.ensures c.pit-3.ensures c.pit-4.ensures c.pit-5.ensures c.pit-6.ensures c.pit-7.ensures c.pit-8.ensures c.pit-9.ensures c.pit-10.ensures c.pit-11.ensures c.pit-12.ensures
    ∙ c.self.view_is
