use Rattle.std.proofs.Common.{pos, ◌<ℤ◌, ◌≤ℤ◌, arith, rules}
use Rattle.std.proofs.lemmas.Int.{ints}
use Rattle.awari_segments.proofs.Joining.{joins_lost, joins_won, signed_lost, signed_won}
use Rattle.awari_segments.proofs.by_distance.ByDistanceFreshSet.insert.Goals as goal

pub returns-then-cell-lt0-clause-joins : goal.returns-then-cell-lt0-clause-joins
returns-then-cell-lt0-clause-joins c = joins_lost c.args.self.now c.args.rank c.args.cell.dist _ c.in_ok-put.ensures.put

pub returns-then-cell-lt0-clause-right : goal.returns-then-cell-lt0-clause-right
returns-then-cell-lt0-clause-right c = λ start cells can.
    let below : c.args.cell.score <ℤ pos 0 = search rules in
    signed_lost start cells c.args.self.now c.args.rank c.args.cell can _ c.in_ok-put.ensures.put below

pub returns-clause-joins : goal.returns-clause-joins
returns-clause-joins c = joins_won c.args.self.now c.args.rank c.args.cell.dist _ c.in_ok-put-2.ensures.put

pub returns-clause-right : goal.returns-clause-right
returns-clause-right c = λ start cells can.
    let not : pos 0 ≤ℤ c.args.cell.score = search rules in
    let some = can.valued in
    signed_won start cells c.args.self.now c.args.rank c.args.cell can _ c.in_ok-put-2.ensures.put (let above : pos 0 <ℤ c.args.cell.score = omega (arith, ints, not, some) in above)
