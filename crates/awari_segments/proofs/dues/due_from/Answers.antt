use Rattle.std.proofs.Common.{◌≡◌, ◌≤◌, [], List, sym, subst}
use Rattle.awari_block.specs.Blocks.{Due, due_dist}
use Rattle.awari_segments.specs.Lists.{dues_of}
use Rattle.awari_block.proofs.ListParts.{All-append_first, All-append_second}
use Rattle.awari_segments.proofs.NearestList.{AreFar, HasAt, IsNearest, both_nearest}
use Rattle.awari_segments.proofs.dues.due_from.Goals as goal

pub first_from-requires : goal.first_from-requires
first_from-requires c = record {
  empty = All-append_first (λ (f : Due). c.args.from ≤ due_dist f) (dues_of c.fresh-fresh.result.now.lost) (dues_of c.fresh-fresh.result.now.won) (subst (λ (fs : List Due). AreFar fs c.args.from) (sym c.fresh-fresh.ensures.dues) c.requires.far);
}

pub first_from-requires-2 : goal.first_from-requires-2
first_from-requires-2 c = record {
  empty = All-append_second (λ (f : Due). c.args.from ≤ due_dist f) (dues_of c.fresh-fresh.result.now.lost) (dues_of c.fresh-fresh.result.now.won) (subst (λ (fs : List Due). AreFar fs c.args.from) (sym c.fresh-fresh.ensures.dues) c.requires.far);
}

near : (c : goal.After-nearer) → IsNearest (c.args.segment.now.fresh ≡ []) (AreFar c.args.segment.now.fresh) (HasAt c.args.from c.args.segment.now) c.nearer.result
near c =
    both_nearest c.args.segment.now c.fresh-fresh.result.now.lost c.fresh-fresh.result.now.won c.args.from c.first_from.result c.first_from-2.result c.fresh-fresh.ensures.dues c.fresh-fresh.ensures.fresh
    c.first_from.ensures.none c.first_from.ensures.least c.first_from.ensures.some c.first_from-2.ensures.none c.first_from-2.ensures.least c.first_from-2.ensures.some c.nearer.result c.nearer.ensures

pub returns-clause-none : goal.returns-clause-none
returns-clause-none c = (near c).none

pub returns-clause-least : goal.returns-clause-least
returns-clause-least c = (near c).least

pub returns-clause-some : goal.returns-clause-some
returns-clause-some c = (near c).some
