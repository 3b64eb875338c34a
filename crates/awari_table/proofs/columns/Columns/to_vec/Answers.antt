use Rattle.awari_table.proofs.ShelfLemmas.{take-read}
use Rattle.awari_table.proofs.columns.Columns.to_vec.Goals as goal

pub loop-rank-preserved : goal.loop-rank-preserved
loop-rank-preserved c =
    let step = take-read c.args.self.now c.loop-rank.rank c.at.result c.at.ensures in
    (c.loop-rank.invariant.0, cc c.in_ok-push.ensures.items)
