use Rattle.std.proofs.Common.{◌≡◌, subst, arith}
use Rattle.awari_block.specs.Counts.{spread_of}
use Rattle.awari_block.specs.Part.{Part}
use Rattle.awari_block.proofs.boards.Boards.boards_spread.Goals as goal

pub returns-clause-count : goal.returns-clause-count
returns-clause-count g c = subst (λ (o : Part). c.self.inside.spread ≡ spread_of o) c.self.view_is (let count = c.self.invariant.count in omega (arith, count))

pub returns-clause-few : goal.returns-clause-few
returns-clause-few g c = let count = c.self.invariant.count in let fits = c.self.invariant.fits in omega (arith, count, fits)
