use Rattle.std.proofs.Common.{◌/◌, ◌<◌, ap, rules, arith}
use Rattle.awari_rank.specs.Rank.{size_of}
use Rattle.awari_index.proofs.RunLists.{stretch_read}
use Rattle.awari_index.proofs.index.Index.stretch.Goals as goal

pub index-from-requires : goal.index-from-requires
index-from-requires c =
    let order = c.requires.order in
    let within = c.requires.within in
    let few : c.args.rank < size_of c.self.inside.level = (let view = ap size_of c.self.view_is in omega (arith, order, within, view)) in
    let window = c.self.invariant.windows (c.args.rank / 128) (omega (arith, few)) in
    search (rules, window)

pub returns-clause-boards : goal.returns-clause-boards
returns-clause-boards c =
    (stretch_read c.self.inside.level c.args.self.now c.args.rank c.args.end c.self.inside.tails.starts.items c.self.inside.tails.boards.items c.from.result.now c.self.inside.runs.items c.as_slice.result.now c.run_of.result c.index-run.result.now
    c.self.view_is c.as_slice.ensures.value c.self.invariant.tails c.self.invariant.runs c.run_of.ensures.inside c.run_of.ensures.begun c.run_of.ensures.last c.requires.order c.requires.within c.index-run.ensures (search rules) (search rules)).0

pub returns-clause-last : goal.returns-clause-last
returns-clause-last c =
    (stretch_read c.self.inside.level c.args.self.now c.args.rank c.args.end c.self.inside.tails.starts.items c.self.inside.tails.boards.items c.from.result.now c.self.inside.runs.items c.as_slice.result.now c.run_of.result c.index-run.result.now
    c.self.view_is c.as_slice.ensures.value c.self.invariant.tails c.self.invariant.runs c.run_of.ensures.inside c.run_of.ensures.begun c.run_of.ensures.last c.requires.order c.requires.within c.index-run.ensures (search rules) (search rules)).1
