use Rattle.std.proofs.Common.{sym, ◌∙◌, rules}
use Rattle.std.proofs.lemmas.Bool.{false≢true}
use Rattle.awari_scan.proofs.RunMoves.{adds-none, adds-near, adds-far}
use Rattle.awari_scan.proofs.runs.with_move.Goals as goal

pub returns-then-not-legal : goal.returns-then-not-legal
returns-then-not-legal c = λ p own stones before.
    adds-none p c.args.head.now c.args.pit c.args.moves.near c.args.moves.far own stones (λ legal. false≢true (sym c.if-not-legal.true ∙ c.legal.ensures.1 legal)) before

pub returns-then-last_pit-lt6 : goal.returns-then-last_pit-lt6
returns-then-last_pit-lt6 c = λ p own stones before.
    rw c.with.ensures (adds-near p c.args.head.now c.args.pit c.args.moves.near c.args.moves.far own stones c.last_pit.result (search rules) c.last_pit.ensures c.if-last_pit-lt6.true before)

pub returns : goal.returns
returns c = λ p own stones before.
    rw c.with-2.ensures (adds-far p c.args.head.now c.args.pit c.args.moves.near c.args.moves.far own stones (search rules) before)
