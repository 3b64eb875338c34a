use Rattle.std.proofs.Common.{◌<◌, suc, List, drop, length, get_or, take, subst, sym, rules}
use Rattle.std.proofs.lemmas.List.{take_all}
use Rattle.std.proofs.lemmas.Result.{err_from_is_err_and}
use Rattle.awari_block.specs.Part.{Part}
use Rattle.awari_block.specs.declared.notes.Note.{Note}
use Rattle.awari_owner.specs.OwnerFault.{IsFaultOf}
use Rattle.awari_owner.specs.Sound.{RefusesNote, TakesNotes}
use Rattle.awari_owner.proofs.Sounding.{no_note, read_at, split_at, takes_more, takes_none}
use Rattle.awari_owner.proofs.batches.take_batch.Goals as goal

pub loop-note-init : goal.loop-note-init
loop-note-init c = takes_none c.args.part.now

pub loop-note-preserved : goal.loop-note-preserved
loop-note-preserved c =
    let k = c.loop-note.note-index in
    let items : List Note = c.args.batch.now.items in
    let low : k < length items = search rules in
    let m : Note = get_or c.as_slice-note-items.result.now k no_note in
    subst (λ (notes : List Note). TakesNotes notes c.args.part.now c.take.new.self) (read_at c.as_slice-note-items.result.now items k c.as_slice-note-items.ensures.value low)
    (takes_more c.args.part.now c.loop-note.part c.take.new.self (take k items) m c.loop-note.invariant c.in_ok-take.ensures.taken)

pub returns-clause-taken : goal.returns-clause-taken
returns-clause-taken c =
    subst (λ (notes : List Note). TakesNotes notes c.args.part.now c.loop-note.part) (take_all c.loop-note.note-index c.args.batch.now.items (search rules)) c.loop-note.invariant

pub returns-in_err-take-clause-refused : goal.returns-in_err-take-clause-refused
returns-in_err-take-clause-refused c =
    let k = c.loop-note.note-index in
    let items : List Note = c.args.batch.now.items in
    let low : k < length items = search rules in
    let m : Note = get_or c.as_slice-note-items.result.now k no_note in
    let p = err_from_is_err_and c.from_residual.result c.from_residual.ensures.1 in
    let refused : RefusesNote items c.args.part.now c.take.new.self c.in_err-take.field-0.0 = record {
      before = take k items;
      note = m;
      after = drop (suc k) items;
      items = split_at c.as_slice-note-items.result.now items k c.as_slice-note-items.ensures.value low;
      taken = subst (λ (q : Part). TakesNotes (take k items) c.args.part.now q) (sym c.in_err-take.ensures.err) c.loop-note.invariant;
      refused = subst (λ (q : Part). IsFaultOf q m c.in_err-take.field-0.0) (sym c.in_err-take.ensures.err) c.in_err-take.ensures.refused;
    } in
    rw (p.1, p.2) refused
