use Rattle.awari_facts.proofs.FactLaws.{all_six}
use Rattle.awari_facts.proofs.looks.gains_of.Goals as goal

pub returns : goal.returns
returns c =
    let p = c.args.board.now in
    all_six (c.gained_with.ensures p 0 c.left_by.ensures.some c.left_by.ensures.none) (c.gained_with-2.ensures p 1 c.left_by-2.ensures.some c.left_by-2.ensures.none)
    (c.gained_with-3.ensures p 2 c.left_by-3.ensures.some c.left_by-3.ensures.none) (c.gained_with-4.ensures p 3 c.left_by-4.ensures.some c.left_by-4.ensures.none)
    (c.gained_with-5.ensures p 4 c.left_by-5.ensures.some c.left_by-5.ensures.none) (c.gained_with-6.ensures p 5 c.left_by-6.ensures.some c.left_by-6.ensures.none)
