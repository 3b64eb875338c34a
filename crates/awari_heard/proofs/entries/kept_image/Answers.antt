use Rattle.awari_heard.proofs.Blocks.{puts_whole}
use Rattle.awari_heard.proofs.entries.kept_image.Goals as goal

pub returns : goal.returns
returns c = λ parts whole puts.
    let (sized, kept) = puts_whole _ _ _ whole puts in
    record { level = c.levels.ensures.levels; sized = sized; kept = kept; limited = c.greatest_dist.ensures }
