use Rattle.awari_answers.proofs.PrintLaws.{piece_more}
use Rattle.awari_answers.proofs.printing.write_pieces.Goals as goal

pub loop-turn-preserved : goal.loop-turn-preserved
loop-turn-preserved g c =
    let (done, split, came) = c.loop-turn.invariant in
    piece_more c.args.bytes.now done c.loop-turn.rest.now c.in-Some.count _ _ _ split came c.in-Some.ensures.taken.1
