use Rattle.std.proofs.Common.{rules, List, set, sym, subst}
use Rattle.awari_core.specs.Core.{CanSend, Core, MovesBatch, Sender, Sound, DoesSend, IsBetween, sender_at}
use Rattle.awari_core.proofs.Effects.{as_many, core_of, not_true, same_sender, send_does, sender_was}
use Rattle.awari_core.proofs.Steps.{send_step}
use Rattle.awari_core.proofs.cores.Core.send.Goals as goal

pub invariant_of-self : goal.invariant_of-self
invariant_of-self c =
    let old = core_of c.self.inside in
    let between : IsBetween old c.args.from c.args.to = subst (λ (o : Core). IsBetween o c.args.from c.args.to) (sym c.self.view_is) (c.is_between.ensures.0 (search rules)) in
    subst (λ (l : List Sender). Sound (record old { senders = l }))
    (sym (same_sender old.senders c.args.from c.index_mut.result.now c.send.new.self (as_many old c.args.from c.self.invariant between.0) c.index_mut.ensures.value (c.send.ensures.kept c.if-not-send.true)))
    c.self.invariant

pub returns-then-not-send-clause-sound : goal.returns-then-not-send-clause-sound
returns-then-not-send-clause-sound c = invariant_of-self c

pub returns-then-not-send-clause-refused : goal.returns-then-not-send-clause-refused
returns-then-not-send-clause-refused c =
    let old = core_of c.self.inside in
    let between : IsBetween old c.args.from c.args.to = subst (λ (o : Core). IsBetween o c.args.from c.args.to) (sym c.self.view_is) (c.is_between.ensures.0 (search rules)) in
    let was = sender_was old.senders c.args.from c.index_mut.result.now (as_many old c.args.from c.self.invariant between.0) c.index_mut.ensures.value in
    subst (λ (o : Core). IsBetween o c.args.from c.args.to × CanSend (sender_at o c.args.from) c.args.to → ⊥) c.self.view_is
    (λ enabled. not_true c.send.result c.if-not-send.true (c.send.ensures.enabled.1 (subst (λ (s : Sender). CanSend s c.args.to) was enabled.1)))

-- the batch that moves
moves : (c : goal.Else-not-send) → MovesBatch (sender_at (core_of c.self.inside) c.args.from) c.send.new.self c.args.to
moves c =
    let old = core_of c.self.inside in
    let between : IsBetween old c.args.from c.args.to = subst (λ (o : Core). IsBetween o c.args.from c.args.to) (sym c.self.view_is) (c.is_between.ensures.0 (search rules)) in
    subst (λ (s : Sender). MovesBatch s c.send.new.self c.args.to)
    (sym (sender_was old.senders c.args.from c.index_mut.result.now (as_many old c.args.from c.self.invariant between.0) c.index_mut.ensures.value)) (c.send.ensures.sent c.if-not-send.false)

pub invariant_of-self-2 : goal.invariant_of-self-2
invariant_of-self-2 c =
    let old = core_of c.self.inside in
    let between : IsBetween old c.args.from c.args.to = subst (λ (o : Core). IsBetween o c.args.from c.args.to) (sym c.self.view_is) (c.is_between.ensures.0 (search rules)) in
    send_step old c.args.from c.args.to c.send.new.self between.0 between.1 (moves c) c.self.invariant

pub returns-clause-sound : goal.returns-clause-sound
returns-clause-sound c = invariant_of-self-2 c

pub returns-clause-done : goal.returns-clause-done
returns-clause-done c =
    let old = core_of c.self.inside in
    let between : IsBetween old c.args.from c.args.to = subst (λ (o : Core). IsBetween o c.args.from c.args.to) (sym c.self.view_is) (c.is_between.ensures.0 (search rules)) in
    subst (λ (o : Core). DoesSend o (record old { senders = set old.senders c.args.from c.send.new.self }) c.args.from c.args.to) c.self.view_is
    (send_does old c.args.from c.args.to c.send.new.self (as_many old c.args.from c.self.invariant between.0) (moves c))

pub returns-clause-enabled : goal.returns-clause-enabled
returns-clause-enabled c =
    let old = core_of c.self.inside in
    let between : IsBetween old c.args.from c.args.to = subst (λ (o : Core). IsBetween o c.args.from c.args.to) (sym c.self.view_is) (c.is_between.ensures.0 (search rules)) in
    let was = sender_was old.senders c.args.from c.index_mut.result.now (as_many old c.args.from c.self.invariant between.0) c.index_mut.ensures.value in
    subst (λ (o : Core). IsBetween o c.args.from c.args.to × CanSend (sender_at o c.args.from) c.args.to) c.self.view_is
    (between, subst (λ (s : Sender). CanSend s c.args.to) (sym was) (c.send.ensures.enabled.0 (search rules)))
