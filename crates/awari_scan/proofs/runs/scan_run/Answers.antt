use Rattle.std.proofs.Common.{◌≡◌, ◌+◌, ◌-◌, length, set, sym, subst, ◌∙◌, rules, arith, length-set}
use Rattle.awari_table.specs.Images.{table_of}
use Rattle.awari_scan.specs.Scan.{AreScanned}
use Rattle.awari_scan.proofs.RunMoves.{of_stretch}
use Rattle.awari_scan.proofs.Scanning.{scanned-more}
use Rattle.awari_scan.proofs.runs.scan_run.Goals as goal

pub scanned-requires-clause-stones : goal.scanned-requires-clause-stones
scanned-requires-clause-stones c =
    (of_stretch (length c.args.shelf.now) c.args.index.now c.args.rank c.loop-k.k c.stretch-stretch.result.head c.joined-board.result c.index-stretch-k.result c.stretch-stretch.result.tails.now
    c.requires.can.level c.stretch-stretch.ensures.boards c.loop-k-test.true c.joined-board.ensures.joined).at.stones

pub scanned-requires-clause-moves : goal.scanned-requires-clause-moves
scanned-requires-clause-moves c =
    let found =
    of_stretch (length c.args.shelf.now) c.args.index.now c.args.rank c.loop-k.k c.stretch-stretch.result.head c.joined-board.result c.index-stretch-k.result c.stretch-stretch.result.tails.now
    c.requires.can.level c.stretch-stretch.ensures.boards c.loop-k-test.true c.joined-board.ensures.joined in
    c.moves_of-moves.ensures c.joined-board.result found.own found.stones

pub loop-k-preserved : goal.loop-k-preserved
loop-k-preserved c =
    let n = length c.args.shelf.now in
    let value = (table_of c.args.shelf.now).value in
    let found =
    of_stretch n c.args.index.now c.args.rank c.loop-k.k c.stretch-stretch.result.head c.joined-board.result c.index-stretch-k.result c.stretch-stretch.result.tails.now
    c.requires.can.level c.stretch-stretch.ensures.boards c.loop-k-test.true c.joined-board.ensures.joined in
    let place : c.args.rank - c.args.start + c.loop-k.k ≡ c.args.rank + c.loop-k.k - c.args.start = (let from = c.requires.inside.0 in omega (arith, from)) in
    record {
      size = length-set _ _ _ ∙ c.loop-k.invariant.size;
      scanned = λ before.
          subst (λ j. AreScanned value n c.args.start (c.args.rank + (c.loop-k.k + 1)) (set c.loop-k.cells j c.scanned.result)) (sym place)
          (subst (λ r. AreScanned value n c.args.start r (set c.loop-k.cells (c.args.rank + c.loop-k.k - c.args.start) c.scanned.result)) (let next : (c.args.rank + c.loop-k.k) + 1 ≡ c.args.rank + (c.loop-k.k + 1) = omega arith in next)
          (scanned-more value n c.args.start (c.args.rank + c.loop-k.k) c.loop-k.cells c.scanned.result c.joined-board.result c.ranks_tell_boards_apart.ensures
          found.at.board found.at.stones found.at.rank (let from = c.requires.inside.0 in omega (arith, from)) (search rules) c.scanned.ensures (c.loop-k.invariant.scanned before)));
    }
