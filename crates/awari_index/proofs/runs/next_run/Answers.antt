use Rattle.std.proofs.Common.{◌≡◌, ◌+◌, ◌-◌, sum, sym, ap, subst, rules, arith}
use Rattle.awari_rank.specs.Rank.{rank_of, size_of}
use Rattle.awari_index.specs.Runs.{IsHead, fillings}
use Rattle.awari_index.specs.declared.runs.Run.{Run}
use Rattle.awari_index.proofs.Halving.{IsRunEnd, next_run, run_end}
use Rattle.awari_index.proofs.runs.next_run.Goals as goal

pub returns-in-Some-clause-some : goal.returns-in-Some-clause-some
returns-in-Some-clause-some c =
    let n = sum c.args.run.now.board in
    let starts = c.args.tails.now.starts.items in
    let end : IsRunEnd n c.args.run.now starts c.joined-board.result
    = run_end n c.args.run.now starts c.args.tails.now.boards.items c.index.result.now c.index-2.result.now c.joined-board.result c.requires.head c.requires.tails c.index.ensures c.joined-board.ensures.joined c.index-2.ensures in
    let next = next_run n (c.args.run.now.start + (fillings starts c.args.run.now.stones - 1)) c.args.run.now.stones c.joined-board.result c.in-Some.next end.at end.rest c.in-Some.ensures.board c.in-Some.ensures.stones c.in-Some.ensures.rank in
    let some = end.some in
    let at : rank_of c.in-Some.next ≡ c.args.run.now.start + fillings starts c.args.run.now.stones = (let e = next.1 in omega (arith, e, some)) in
    subst (λ (r : Run). IsHead n r × (r.start ≡ c.args.run.now.start + fillings starts c.args.run.now.stones)) (sym c.run_from.ensures) (next.0, at)

pub returns-in-None-clause-none : goal.returns-in-None-clause-none
returns-in-None-clause-none c =
    let n = sum c.args.run.now.board in
    let starts = c.args.tails.now.starts.items in
    let end : IsRunEnd n c.args.run.now starts c.joined-board.result
    = run_end n c.args.run.now starts c.args.tails.now.boards.items c.index.result.now c.index-2.result.now c.joined-board.result c.requires.head c.requires.tails c.index.ensures c.joined-board.ensures.joined c.index-2.ensures in
    let last : rank_of c.joined-board.result + 1 ≡ size_of (sum c.joined-board.result) = search rules in
    let stones = end.at.stones in
    let some = end.some in
    let rank = end.at.rank in
    omega (arith, last, rank, some, ap size_of stones)
