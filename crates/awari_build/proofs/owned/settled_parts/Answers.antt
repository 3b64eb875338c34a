use Rattle.std.proofs.Common.{◌≡◌, ◌+◌, ◌-◌, length, sym, subst, arith}
use Rattle.awari_table.specs.Images.{table_of}
use Rattle.awari_build.specs.Settled.{AreSettled}
use Rattle.awari_phase.specs.Owners.{AreAt}
use Rattle.awari_build.proofs.owned.settled_parts.Goals as goal

pub loop-gain-init : goal.loop-gain-init
loop-gain-init g c = (length c.args.shelf.now + 1, omega arith, omega arith, c.in_ok-owners.ensures.begun)

pub loop-gain-preserved : goal.loop-gain-preserved
loop-gain-preserved g c =
    let held = c.loop-gain.invariant in
    let some = held.1 in
    let sum = held.2 in
    let low = c.loop-gain-test.true in
    let end = c.levels-gain-end.ensures.levels in
    let opened : held.0 ≡ held.0 - 1 + 1 = omega (arith, some) in (
      held.0 - 1,
      omega (arith, sum, low, end),
      omega (arith, sum, some),
      c.in_ok-owners-2.ensures.closed (table_of c.args.shelf.now).value (length c.args.shelf.now) (held.0 - 1)
          (subst (λ o. AreAt (table_of c.args.shelf.now).value (length c.args.shelf.now) o c.loop-gain.owners.items) opened held.3),
    )

pub returns-clause-settled : goal.returns-clause-settled
returns-clause-settled g c =
    let held = c.loop-gain.invariant in
    let some = held.1 in
    let sum = held.2 in
    let last = c.loop-gain-test.false in
    let end = c.levels-gain-end.ensures.levels in
    let one : held.0 ≡ 1 = omega (arith, some, sum, last, end) in
    let at = subst (λ o. AreAt (table_of c.args.shelf.now).value (length c.args.shelf.now) o c.loop-gain.owners.items) one held.3 in
    let law = c.finished_owners_are_right.ensures in
    let heard = law.heard (table_of c.args.shelf.now).value (length c.args.shelf.now) c.loop-gain.owners.items at.finished in
    subst (AreSettled c.args.shelf.now) (sym c.in_ok-parts.ensures) (record { whole = heard.0; closed = law.closed c.loop-gain.owners.items at.idle at.gain; heard = heard.1 })
