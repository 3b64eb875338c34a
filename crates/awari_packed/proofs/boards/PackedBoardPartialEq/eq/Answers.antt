use Rattle.std.proofs.Common.{◌∙◌, ap, sym, eqb}
use Rattle.awari_packed.specs.Packed.{packed, packed-pits_of}
use Rattle.awari_packed.proofs.boards.PackedBoardPartialEq.eq.Goals as goal

pub returns : goal.returns
returns c =
    let one = sym (packed-pits_of c.t1-1.inside.bits c.t1-1.invariant.top) ∙ ap packed c.t1-1.view_is in
    let two = sym (packed-pits_of c.t2-1.inside.bits c.t2-1.invariant.top) ∙ ap packed c.t2-1.view_is in
    c.eq.ensures ∙ ap (λ n. eqb n c.t2-1.inside.bits) one ∙ ap (λ n. eqb (packed c.args.self.now) n) two
