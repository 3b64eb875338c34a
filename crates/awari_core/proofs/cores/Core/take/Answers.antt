use Rattle.std.proofs.Common.{rules, List, length, set, sym, subst}
use Rattle.awari_table.specs.Images.{table_of}
use Rattle.awari_block.specs.Part.{Part}
use Rattle.awari_owner.specs.Sound.{RefusesNote, TakesNotes}
use Rattle.awari_core.specs.Core.{Core, Sender, Sound, DoesTake, IsBetween, PopsBatch, coming, owner_part, sender_at}
use Rattle.awari_core.proofs.Effects.{as_many, core_of, part_was, same_sender, sender_was, take_does}
use Rattle.awari_core.proofs.Sounding.{none_refused}
use Rattle.awari_core.proofs.Steps.{left, next_of, take_step}
use Rattle.awari_core.proofs.cores.Core.take.Goals as goal

pub invariant_of-self : goal.invariant_of-self
invariant_of-self c =
    let old = core_of c.self.inside in
    let between : IsBetween old c.args.from c.args.to = subst (λ (o : Core). IsBetween o c.args.from c.args.to) (sym c.self.view_is) (c.is_between.ensures.0 (search rules)) in
    subst (λ (l : List Sender). Sound (record old { senders = l }))
    (sym (same_sender old.senders c.args.from c.index_mut.result.now c.pop.new.self (as_many old c.args.from c.self.invariant between.0) c.index_mut.ensures.value c.in_default.ensures.none.1))
    c.self.invariant

pub returns-in_default-clause-sound : goal.returns-in_default-clause-sound
returns-in_default-clause-sound c = invariant_of-self c

pub unreachable-requires : goal.unreachable-requires
unreachable-requires c =
    let old = core_of c.self.inside in
    let between : IsBetween old c.args.from c.args.to = subst (λ (o : Core). IsBetween o c.args.from c.args.to) (sym c.self.view_is) (c.is_between.ensures.0 (search rules)) in
    let pops : PopsBatch c.in-Some.batch.items (sender_at old c.args.from) c.pop.new.self c.args.to = subst (λ (s : Sender). PopsBatch c.in-Some.batch.items s c.pop.new.self c.args.to)
    (sym (sender_was old.senders c.args.from c.index_mut.result.now (as_many old c.args.from c.self.invariant between.0) c.index_mut.ensures.value)) c.in-Some.ensures.some in
    none_refused c.coming_notes_are_expected.ensures (table_of old.shelf).value (length old.shelf) (length old.parts) (owner_part old) (coming old) c.self.invariant.taken c.self.invariant.sound
    c.args.from c.args.to between.0 between.1 between.2 c.take_batch.new.part c.in-Some.batch.items (left old c.args.from c.args.to between.0 between.1 between.2 c.self.invariant c.in-Some.batch.items c.pop.new.self pops)
    (next_of old c.args.from c.args.to between.0 between.1 between.2 c.self.invariant c.in-Some.batch.items c.pop.new.self pops) c.in-Err.field-0
    (subst (λ (p : Part). RefusesNote c.in-Some.batch.items p c.take_batch.new.part c.in-Err.field-0) (sym (part_was old.parts c.args.to c.index_mut-2.result.now between.1 c.index_mut-2.ensures.value)) c.in-Err.ensures.refused)

-- the batch that is taken off
pops : (c : goal.In-Ok) → PopsBatch c.in-Some.batch.items (sender_at (core_of c.self.inside) c.args.from) c.pop.new.self c.args.to
pops c =
    let old = core_of c.self.inside in
    let between : IsBetween old c.args.from c.args.to = subst (λ (o : Core). IsBetween o c.args.from c.args.to) (sym c.self.view_is) (c.is_between.ensures.0 (search rules)) in
    subst (λ (s : Sender). PopsBatch c.in-Some.batch.items s c.pop.new.self c.args.to)
    (sym (sender_was old.senders c.args.from c.index_mut.result.now (as_many old c.args.from c.self.invariant between.0) c.index_mut.ensures.value)) c.in-Some.ensures.some

-- and heard
hears : (c : goal.In-Ok) → TakesNotes c.in-Some.batch.items (owner_part (core_of c.self.inside) c.args.to) c.take_batch.new.part
hears c =
    let old = core_of c.self.inside in
    let between : IsBetween old c.args.from c.args.to = subst (λ (o : Core). IsBetween o c.args.from c.args.to) (sym c.self.view_is) (c.is_between.ensures.0 (search rules)) in
    subst (λ (p : Part). TakesNotes c.in-Some.batch.items p c.take_batch.new.part) (sym (part_was old.parts c.args.to c.index_mut-2.result.now between.1 c.index_mut-2.ensures.value)) c.in-Ok.ensures.taken

pub invariant_of-self-2 : goal.invariant_of-self-2
invariant_of-self-2 c =
    let old = core_of c.self.inside in
    let between : IsBetween old c.args.from c.args.to = subst (λ (o : Core). IsBetween o c.args.from c.args.to) (sym c.self.view_is) (c.is_between.ensures.0 (search rules)) in
    take_step old c.args.from c.args.to between.0 between.1 between.2 c.self.invariant c.in-Some.batch.items c.pop.new.self (pops c) c.take_batch.new.part (hears c)

pub returns-clause-sound : goal.returns-clause-sound
returns-clause-sound c = invariant_of-self-2 c

pub returns-clause-done : goal.returns-clause-done
returns-clause-done c =
    let old = core_of c.self.inside in
    let between : IsBetween old c.args.from c.args.to = subst (λ (o : Core). IsBetween o c.args.from c.args.to) (sym c.self.view_is) (c.is_between.ensures.0 (search rules)) in
    subst (λ (o : Core). DoesTake o (record old { parts = set old.parts c.args.to c.take_batch.new.part; senders = set old.senders c.args.from c.pop.new.self }) c.args.from c.args.to) c.self.view_is
    (take_does old c.args.from c.args.to c.in-Some.batch.items c.take_batch.new.part c.pop.new.self (as_many old c.args.from c.self.invariant between.0) between.1 (pops c) (hears c))
