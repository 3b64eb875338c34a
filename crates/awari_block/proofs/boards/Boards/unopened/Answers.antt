use Rattle.std.proofs.Common.{◌≡◌, ◌+◌, List, length, ap, subst, rules, arith}
use Rattle.awari_block.specs.Awaited.{TellAwaited}
use Rattle.awari_block.specs.declared.cells.Cell.{Cell}
use Rattle.awari_block.specs.Part.{part_of, unspread}
use Rattle.awari_block.proofs.Settling.{none_settled}
use Rattle.awari_block.proofs.boards.Boards.unopened.Goals as goal

pub invariant_of-result : goal.invariant_of-result
invariant_of-result g c =
    let cells = c.args.cells.items in
    let fresh = c.in_ok-fresh.fresh in
    let right : g.F.FreshSet.right c.args.start cells fresh = c.in_ok-fresh.ensures.right c.args.start cells (search rules) in
    let awaited : TellAwaited c.args.level cells c.in_ok-awaits.awaits.items = subst (λ (cs : List Cell). TellAwaited c.args.level cs c.in_ok-awaits.awaits.items) c.as_slice.ensures.value c.in_ok-awaits.ensures.told in
    let count : 0 + unspread (part_of (record { level = c.args.level; gain = c.args.level + 1; wave = 0 }) c.args.start cells (g.F.FreshSet.dues fresh)) ≡ length cells =
    (let all = none_settled c.args.level cells c.requires.fit in let idle = ap length c.in_ok-fresh.ensures.none in omega (arith, all, idle)) in
    search (rules, count)

pub returns : goal.returns
returns g c = ap (part_of (record { level = c.args.level; gain = c.args.level + 1; wave = 0 }) c.args.start c.args.cells.items) c.in_ok-fresh.ensures.none
