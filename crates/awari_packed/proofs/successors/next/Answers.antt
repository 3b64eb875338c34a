use Rattle.std.proofs.Common.{◌∙◌, ap, sum, refl, arith}
use Rattle.awari_rank.specs.Rank.{rank_of}
use Rattle.awari_rank.proofs.Succeeding.{succeeded, rank_of-next, rank_of-before}
use Rattle.awari_packed.proofs.Digits.{long-pits_of, pits-from_IsPackOf, IsPacking-from_IsPackOf}
use Rattle.awari_packed.proofs.Whole.{IsBoard-pits_of}
use Rattle.awari_packed.proofs.Nexts.{next_at, some_held}
use Rattle.awari_packed.proofs.successors.next.Goals as goal

pub overflow_sub-result-2 : goal.overflow_sub-result-2
overflow_sub-result-2 c =
    let place = c.last_place-place.ensures in
    some_held c.args.bits c.last_place-place.result place.pits place.few place.last

pub returns-clause-packing : goal.returns-clause-packing
returns-clause-packing c =
    let place = c.last_place-place.ensures in
    IsPacking-from_IsPackOf (next_at c.args.bits c.last_place-place.result c.requires.packing place.pits place.few place.last)

pub returns-clause-stones : goal.returns-clause-stones
returns-clause-stones c =
    let place = c.last_place-place.ensures in
    let few = place.few in
    let next = succeeded refl (IsBoard-pits_of c.args.bits c.requires.packing) place.last (omega (arith, few)) in
    ap sum (pits-from_IsPackOf (next_at c.args.bits c.last_place-place.result c.requires.packing place.pits place.few place.last)) ∙ next.stones

pub returns-clause-rank : goal.returns-clause-rank
returns-clause-rank c =
    let place = c.last_place-place.ensures in
    let few = place.few in
    let next = succeeded refl (IsBoard-pits_of c.args.bits c.requires.packing) place.last (omega (arith, few)) in
    ap rank_of (pits-from_IsPackOf (next_at c.args.bits c.last_place-place.result c.requires.packing place.pits place.few place.last)) ∙ rank_of-next next (long-pits_of c.args.bits)

pub returns-clause-before : goal.returns-clause-before
returns-clause-before c =
    let place = c.last_place-place.ensures in
    let few = place.few in
    rank_of-before (succeeded refl (IsBoard-pits_of c.args.bits c.requires.packing) place.last (omega (arith, few))) (long-pits_of c.args.bits)
