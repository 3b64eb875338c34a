use Rattle.std.proofs.Common.{List, length, ℕ, ◌<◌, ◌≤◌, subst}
use Rattle.std.specs.Prelude.{IfNone, IfSome}
use Rattle.awari_block.specs.Awaited.{NoneAwait}
use Rattle.awari_block.proofs.Awaiting.{awaiting_none, awaiting_some}
use Rattle.awari_block.proofs.boards.Boards.next_awaiting.Goals as goal

pub returns-clause-some : goal.returns-clause-some
returns-clause-some g c =
    awaiting_some c.self.inside.stake c.self.inside.start c.self.inside.cells.items _ c.self.inside.awaits.items c.self.invariant.awaited c.args.self.now c.self.view_is c.args.from c.next_awaiting.result
    (subst (λ (awaits : List ℕ). IfSome c.next_awaiting.result (λ i. (c.args.from ≤ i) × (i < length awaits) × NoneAwait c.self.inside.stake.gain awaits c.args.from i)) c.as_slice.ensures.value c.next_awaiting.ensures.some)

pub returns-clause-none : goal.returns-clause-none
returns-clause-none g c =
    awaiting_none c.self.inside.stake c.self.inside.start c.self.inside.cells.items _ c.self.inside.awaits.items c.self.invariant.awaited c.args.self.now c.self.view_is c.args.from c.next_awaiting.result
    (subst (λ (awaits : List ℕ). IfNone c.next_awaiting.result (NoneAwait c.self.inside.stake.gain awaits c.args.from (length awaits))) c.as_slice.ensures.value c.next_awaiting.ensures.none)
