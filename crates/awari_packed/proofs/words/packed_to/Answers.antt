use Rattle.std.proofs.Common.{◌+◌, ◌∙◌, ap, sym, refl, get_or, take, arith}
use Rattle.awari_packed.specs.Packed.{packed}
use Rattle.awari_packed.proofs.Whole.{packed_fits, packed_more}
use Rattle.awari_packed.proofs.words.packed_to.Goals as goal

pub loop-pit-init : goal.loop-pit-init
unfolding packed
loop-pit-init c = refl

pub overflow_mul-bits : goal.overflow_mul-bits
overflow_mul-bits c =
    let now = c.args.board.now in
    let i = c.loop-pit.pit in
    let same = c.pits-pits.ensures.pits in
    omega (arith, packed_fits now i c.loop-pit.bits (get_or now i 0) c.pits-pits.ensures.board c.requires (omega arith) (c.loop-pit.invariant ∙ ap (λ l. packed (take i l)) same) refl)

pub overflow_add-bits : goal.overflow_add-bits
overflow_add-bits c =
    let now = c.args.board.now in
    let i = c.loop-pit.pit in
    let same = c.pits-pits.ensures.pits in
    omega (arith, packed_fits now i c.loop-pit.bits c.from.result c.pits-pits.ensures.board c.requires (omega arith) (c.loop-pit.invariant ∙ ap (λ l. packed (take i l)) same) (c.from.ensures ∙ ap (λ l. get_or l i 0) same))

pub loop-pit-preserved : goal.loop-pit-preserved
loop-pit-preserved c =
    let now = c.args.board.now in
    let i = c.loop-pit.pit in
    let same = c.pits-pits.ensures.pits in
    packed_more now i c.loop-pit.bits c.from.result c.pits-pits.ensures.board (omega arith) (c.loop-pit.invariant ∙ ap (λ l. packed (take i l)) same) (c.from.ensures ∙ ap (λ l. get_or l i 0) same)
    ∙ ap (λ l. packed (take (i + 1) l)) (sym same)
