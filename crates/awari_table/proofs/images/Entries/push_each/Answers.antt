use Rattle.std.proofs.Common.{◌++◌, ◌∷◌, [], ◌∙◌, List, ap, sym, append_assoc, take}
use Rattle.awari_table.specs.declared.images.Entry.{Entry}
use Rattle.awari_table.proofs.ShelfLemmas.{take-read}
use Rattle.awari_table.proofs.images.Entries.push_each.Goals as goal

pub loop-rank-preserved : goal.loop-rank-preserved
loop-rank-preserved c =
    let step = take-read c.args.more.now c.loop-rank.rank c.at.result c.at.ensures in
    let one = ap (λ (es : List Entry). es ++ c.at.result ∷ []) c.loop-rank.invariant.1 in
    let together = append_assoc c.args.self.now (take c.loop-rank.rank c.args.more.now) (c.at.result ∷ []) in
    (c.loop-rank.invariant.0, c.in_ok-push.ensures.ok ∙ one ∙ together ∙ ap (λ (es : List Entry). c.args.self.now ++ es) (sym step))
