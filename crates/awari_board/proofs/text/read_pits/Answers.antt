use Rattle.std.proofs.Common.{◌≡◌, arith, refl}
use Rattle.awari_board.proofs.Scanning.{IsReading-more}
use Rattle.awari_board.proofs.Parsing.{IsReadAs-from_IsReading, IsFaulty-from_field, Contains-fields}
use Rattle.awari_board.proofs.text.read_pits.Goals as goal

pub returns-in-None-clause-none : goal.returns-in-None-clause-none
returns-in-None-clause-none c =
    let cut = c.split_field.ensures in
    let has = Contains-fields _ _ _ cut.whole cut.field cut.stop in
    IsFaulty-from_field _ _ _ c.split_field.result.0.now c.split_field.result.1.now _ c.requires c.loop-place.invariant c.loop-place-test.true has (c.in-None.ensures.none refl)

pub loop-place-preserved : goal.loop-place-preserved
loop-place-preserved c =
    let cut = c.split_field.ensures in
    let is = (c.in-Some.ensures.some c.in-Some.stones).0 refl in
    rw c.after_first-rest.ensures (IsReading-more _ _ _ _ _ _ _ c.loop-place.invariant c.loop-place-test.true cut.whole cut.field cut.stop is.0 is.1)

pub returns-clause-read : goal.returns-clause-read
returns-clause-read c = let end : c.loop-place.place ≡ 12 = omega arith in IsReadAs-from_IsReading _ _ _ _ c.loop-place.invariant end
