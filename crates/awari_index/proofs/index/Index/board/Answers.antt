use Rattle.std.proofs.Common.{◌/◌, ◌<◌, ◌++◌, [], List, ℕ, take, drop, sum, ap, ◌∙◌, rules, arith}
use Rattle.awari_rank.specs.Rank.{rank_of, size_of}
use Rattle.awari_index.proofs.RunLists.{looked_up}
use Rattle.awari_index.proofs.index.Index.board.Goals as goal

pub index-from-requires : goal.index-from-requires
index-from-requires c =
    let few : c.args.rank < size_of c.self.inside.level = (let r = c.requires in let view = ap size_of c.self.view_is in omega (arith, r, view)) in
    let window = c.self.invariant.windows (c.args.rank / 128) (omega (arith, few)) in
    search (rules, window)

pub index-requires-2 : goal.index-requires-2
index-requires-2 c =
    let found =
    looked_up c.self.inside.level c.args.self.now c.args.rank c.self.inside.tails.starts.items c.self.inside.tails.boards.items c.self.inside.runs.items c.as_slice.result.now c.run_of.result c.index.result.now c.index-start.result.now [] c.self.view_is c.as_slice.ensures.value
    c.self.invariant.tails c.self.invariant.runs c.run_of.ensures.inside c.run_of.ensures.begun c.run_of.ensures.last c.requires c.index.ensures c.index-start.ensures in
    let inside = found.place_in in
    search (rules, inside)

pub joined-requires : goal.joined-requires
joined-requires c =
    let found =
    looked_up c.self.inside.level c.args.self.now c.args.rank c.self.inside.tails.starts.items c.self.inside.tails.boards.items c.self.inside.runs.items c.as_slice.result.now c.run_of.result c.index.result.now c.index-start.result.now c.index-2.result.now c.self.view_is c.as_slice.ensures.value
    c.self.invariant.tails c.self.invariant.runs c.run_of.ensures.inside c.run_of.ensures.begun c.run_of.ensures.last c.requires c.index.ensures c.index-start.ensures in
    let stones = found.at.stones in
    let low = c.self.invariant.low in
    let same = ap (λ (t : List ℕ). sum (take 6 c.index.result.now.board ++ drop 6 t)) c.index-2.ensures in
    omega (arith, stones, low, same)

pub returns-clause-stones : goal.returns-clause-stones
returns-clause-stones c =
    let found =
    looked_up c.self.inside.level c.args.self.now c.args.rank c.self.inside.tails.starts.items c.self.inside.tails.boards.items c.self.inside.runs.items c.as_slice.result.now c.run_of.result c.index.result.now c.index-start.result.now c.index-2.result.now c.self.view_is c.as_slice.ensures.value
    c.self.invariant.tails c.self.invariant.runs c.run_of.ensures.inside c.run_of.ensures.begun c.run_of.ensures.last c.requires c.index.ensures c.index-start.ensures in
    ap sum c.joined.ensures.joined ∙ ap (λ (t : List ℕ). sum (take 6 c.index.result.now.board ++ drop 6 t)) c.index-2.ensures ∙ found.at.stones ∙ c.self.view_is

pub returns-clause-rank : goal.returns-clause-rank
returns-clause-rank c =
    let found =
    looked_up c.self.inside.level c.args.self.now c.args.rank c.self.inside.tails.starts.items c.self.inside.tails.boards.items c.self.inside.runs.items c.as_slice.result.now c.run_of.result c.index.result.now c.index-start.result.now c.index-2.result.now c.self.view_is c.as_slice.ensures.value
    c.self.invariant.tails c.self.invariant.runs c.run_of.ensures.inside c.run_of.ensures.begun c.run_of.ensures.last c.requires c.index.ensures c.index-start.ensures in
    ap rank_of c.joined.ensures.joined ∙ ap (λ (t : List ℕ). rank_of (take 6 c.index.result.now.board ++ drop 6 t)) c.index-2.ensures ∙ found.at.rank
