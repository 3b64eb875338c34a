use Rattle.std.proofs.Common.{◌≡◌, ◌/◌, ◌<◌, length, vec_len, ap, subst, ◌∙◌, rules}
use Rattle.awari_block.proofs.Settling.{settles_none, settles_both}
use Rattle.awari_owner.specs.Queues.{room_in}
use Rattle.awari_owner.specs.Spread.{is_held}
use Rattle.awari_owner.proofs.Telling.{IsTelling-none, IsTelling-next, IsTelling-more, IsTelling-end, next_has_room}
use Rattle.awari_owner.proofs.spreads.tell_all.Goals as goal
use Rattle.awari_scan.proofs.Finding.{code_parts}

pub loop-k-init : goal.loop-k-init
loop-k-init c = record {
  same_queues = search rules;
  settles = settles_none c.args.boards.now;
  telling = IsTelling-none c.args.boards.now c.args.span c.args.kind c.args.queues.now.items c.args.predecessors.now.board c.args.predecessors.now.targets c.args.predecessors.now.count c.requires.found.listed
      (λ r below out. let at = c.requires.room r below out in (search (rules, at.0), at.1));
}

pub tell_one-requires-clause-own : goal.tell_one-requires-clause-own
tell_one-requires-clause-own c =
    let next = IsTelling-next _ _ _ _ _ _ _ _ _ _ 0 (λ p x is move. c.moves_keep_boards.ensures.stones p c.args.predecessors.now.board x 0 is move) c.requires.found.stones c.loop-k.invariant.telling c.loop-k-test.true in
    let own = next.source.2.1.legal.own in subst (λ x. x < 6) (code_parts next.y _ own next.at).1 own

pub tell_one-requires-clause-room : goal.tell_one-requires-clause-room
tell_one-requires-clause-room c = λ out.
    let next = IsTelling-next _ _ _ _ _ _ _ _ _ _ 0 (λ p x is move. c.moves_keep_boards.ensures.stones p c.args.predecessors.now.board x 0 is move) c.requires.found.stones c.loop-k.invariant.telling c.loop-k-test.true in
    let at = code_parts next.y _ next.source.2.1.legal.own next.at in
    let many : length c.loop-k.queues.items ≡ length c.args.queues.now.items = search rules in
    let room = next_has_room _ _ _ _ _ _ _ _ _ _ next.y c.loop-k.invariant.telling c.loop-k.invariant.settles many c.loop-k-test.true (let room = c.requires.found.listed.2.room in search (rules, room)) next.source
    (ap (is_held c.loop-k.boards) at.0 ∙ out) in
    subst (λ r. (r / c.args.span < vec_len c.loop-k.queues) × (0 < room_in c.loop-k.queues.items (r / c.args.span))) at.0 (search (rules, room.0), room.1)

pub loop-k-preserved : goal.loop-k-preserved
loop-k-preserved c =
    let next = IsTelling-next _ _ _ _ _ _ _ _ _ _ 0 (λ p x is move. c.moves_keep_boards.ensures.stones p c.args.predecessors.now.board x 0 is move) c.requires.found.stones c.loop-k.invariant.telling c.loop-k-test.true in
    let many : length c.loop-k.queues.items ≡ length c.args.queues.now.items = search rules in
    record {
      same_queues = search rules;
      settles = settles_both _ _ _ c.loop-k.invariant.settles c.tell_one.ensures.settles;
      telling = IsTelling-more _ _ _ _ _ _ _ _ _ _ _ _ _ c.loop-k.invariant.telling c.loop-k.invariant.settles many next c.tell_one.ensures.told
          (λ y at to inside. c.tell_one.ensures.sent y at to (search (rules, inside))) c.tell_one.ensures.room;
    }

pub returns : goal.returns
returns c = IsTelling-end _ _ _ _ _ _ _ _ _ _ c.loop-k.invariant.telling c.loop-k.invariant.settles (search rules) c.loop-k-test.false
