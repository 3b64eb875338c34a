use Rattle.std.proofs.Common.{◌≡◌, ◌/◌, ◌<◌, true, false, length, ap, sym, subst, ◌∙◌, rules, subst₂}
use Rattle.std.proofs.lemmas.List.{get_or_default}
use Rattle.awari_owner.specs.Spread.{is_held}
use Rattle.awari_owner.specs.Queues.{Queue, no_queue}
use Rattle.awari_owner.specs.Outboxes.{with_note}
use Rattle.awari_block.specs.declared.notes.Note.{Note}
use Rattle.awari_block.proofs.Settling.{settles_none}
use Rattle.awari_owner.proofs.Spreading.{held_by, told_here, told_outside}
use Rattle.awari_owner.proofs.Sending.{sent_here, sent_nothing, room_left}
use Rattle.awari_owner.proofs.spreads.tell_one.Goals as goal
use Rattle.awari_block.specs.Boards.{HearsNote}

pub index_mut-requires : goal.index_mut-requires
index_mut-requires c =
    let out : is_held c.args.boards.now (c.args.code / 8) ≡ false = held_by c.args.boards.now (c.args.code / 8) c.holds.result c.holds.ensures ∙ c.if-not-holds.true in
    let room = c.requires.room out in
    room.0

pub put-requires : goal.put-requires
put-requires c =
    let out : is_held c.args.boards.now (c.args.code / 8) ≡ false = held_by c.args.boards.now (c.args.code / 8) c.holds.result c.holds.ensures ∙ c.if-not-holds.true in
    let room = c.requires.room out in
    let high : (c.args.code / 8) / c.args.span < length c.args.queues.now.items = search (rules, room.0) in
    subst (λ (q : Queue). 0 < q.room) (get_or_default c.args.queues.now.items ((c.args.code / 8) / c.args.span) no_queue c.index_mut.result.now high ∙ sym c.index_mut.ensures.value) room.1

pub returns-then-not-holds-clause-sent : goal.returns-then-not-holds-clause-sent
returns-then-not-holds-clause-sent c = λ y at to inside.
    let out : is_held c.args.boards.now (c.args.code / 8) ≡ false = held_by c.args.boards.now (c.args.code / 8) c.holds.result c.holds.ensures ∙ c.if-not-holds.true in
    let room = c.requires.room out in
    let high : (c.args.code / 8) / c.args.span < length c.args.queues.now.items = search (rules, room.0) in
    sent_here c.args.queues.now.items ((c.args.code / 8) / c.args.span) c.index_mut.result.now c.put.new.self high c.index_mut.ensures.value
    c.args.boards.now c.args.span c.args.kind y (ap (is_held c.args.boards.now) at.0 ∙ out) (ap (λ r. r / c.args.span) (sym at.0))
    (c.put.ensures.notes ∙ ap (λ (n : Note). with_note c.index_mut.result.now.batches n) c.note-note.ensures
    ∙ (λ i. with_note c.index_mut.result.now.batches (record { level = c.args.boards.now.level; target = sym at.0 i; pit = sym at.1 i; kind = c.args.kind; gain = c.args.boards.now.gain; dist = c.args.boards.now.wave })))
    to (search (rules, inside))

pub returns-then-not-holds-clause-room : goal.returns-then-not-holds-clause-room
returns-then-not-holds-clause-room c = λ to.
    let out : is_held c.args.boards.now (c.args.code / 8) ≡ false = held_by c.args.boards.now (c.args.code / 8) c.holds.result c.holds.ensures ∙ c.if-not-holds.true in
    let room = c.requires.room out in
    let high : (c.args.code / 8) / c.args.span < length c.args.queues.now.items = search (rules, room.0) in
    room_left c.args.queues.now.items ((c.args.code / 8) / c.args.span) c.index_mut.result.now c.put.new.self high c.index_mut.ensures.value c.put.ensures.room to

pub returns-then-not-holds-clause-told : goal.returns-then-not-holds-clause-told
returns-then-not-holds-clause-told c = λ y at.
    let out : is_held c.args.boards.now (c.args.code / 8) ≡ false = held_by c.args.boards.now (c.args.code / 8) c.holds.result c.holds.ensures ∙ c.if-not-holds.true in
    told_outside c.args.boards.now c.args.kind y (ap (is_held c.args.boards.now) at.0 ∙ out)

pub returns-then-not-holds-clause-settles : goal.returns-then-not-holds-clause-settles
returns-then-not-holds-clause-settles c = settles_none c.args.boards.now

pub returns-clause-sent : goal.returns-clause-sent
returns-clause-sent c = λ y at to low.
    let inside : is_held c.args.boards.now (c.args.code / 8) ≡ true = held_by c.args.boards.now (c.args.code / 8) c.holds.result c.holds.ensures ∙ c.if-not-holds.false in
    sent_nothing c.args.queues.now.items c.args.boards.now c.args.span c.args.kind y (ap (is_held c.args.boards.now) at.0 ∙ inside) to

pub returns-clause-told : goal.returns-clause-told
returns-clause-told c = λ y at.
    let inside : is_held c.args.boards.now (c.args.code / 8) ≡ true = held_by c.args.boards.now (c.args.code / 8) c.holds.result c.holds.ensures ∙ c.if-not-holds.false in
    told_here c.args.boards.now c.hear.new.self c.args.kind y c.ranks_tell_boards_apart.ensures c.requires.can.positive (ap (is_held c.args.boards.now) at.0 ∙ inside)
    (subst (λ x. x < 6) (sym at.1) c.requires.own) c.in-Ok.ensures.settles.same (subst₂ (λ r x. HearsNote c.args.boards.now c.hear.new.self r x c.args.kind) (sym at.0) (sym at.1) c.in-Ok.ensures.hears)
