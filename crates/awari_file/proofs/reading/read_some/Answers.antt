use Rattle.std.proofs.Common.{◌*◌, ◌∙◌, List, Err, take, sym, ap, arith, length-take, refl, subst, ⊎_elim}
use Rattle.std.proofs.lemmas.Result.{err_from_is_err_and}
use Rattle.awari_table.specs.declared.images.Entry.{Entry}
use Rattle.awari_file.specs.declared.faults.FileFault.{FileFault}
use Rattle.awari_file.specs.declared.faults.FileFault.TheVariants as faults
use Rattle.awari_file.specs.Reading.{entries_at, Fails}
use Rattle.awari_file.specs.Source.{HasFault}
use Rattle.awari_file.proofs.FileLaws.{entries-is, read_from_short, memory_from_short}
use Rattle.awari_file.proofs.Steps.{step_fails, step_gives, step_early, step_stops, step_whole, step_right, not_lacking, own_not_memory, stops_for}
use Rattle.awari_file.proofs.Sealed.{tells}
use Rattle.awari_file.proofs.SpellLaws.{IsBytes-take}
use Rattle.awari_file.proofs.reading.read_some.Goals as goal

pub returns-in_err-add_entries-clause-parsed : goal.returns-in_err-add_entries-clause-parsed
returns-in_err-add_entries-clause-parsed g c = λ whole left here.
    let p = err_from_is_err_and c.from_residual.result c.from_residual.ensures.1 in
    let n = c.args.count in
    let front = take c.fill-came.result.count c.fill-came.new.buf in
    let size = length-take c.fill-came.result.count c.fill-came.new.buf in
    rw (p.1, p.2) (⊎_elim (λ h. step_fails (List Entry) (6 * n) (entries_at n) (entries-is n) c.fill-came.result.short c.in_err-add_entries.field-0.0 front whole left _ _ _ _ here c.fill-came.ensures.bytes
    (λ lt. c.fill-came.ensures.ends.why (omega (arith, size))) h) (λ h. subst (λ (e : FileFault). Fails e (entries_at n faults.Truncated left)) (sym h.0) tt) c.in_err-add_entries.ensures.added)

pub returns-clause-parsed : goal.returns-clause-parsed
returns-clause-parsed g c = λ whole left here.
    let n = c.args.count in
    let front = take c.fill-came.result.count c.fill-came.new.buf in
    let size = length-take c.fill-came.result.count c.fill-came.new.buf in
    let (new, over, items, read) = c.in_ok-add_entries.ensures.added in
    let (rest, at, gives) = step_gives (List Entry) (6 * n) (entries_at n) (entries-is n) c.fill-came.result.short front whole left (new, over) _ _ here c.fill-came.ensures.bytes
    (omega (arith, size)) read (IsBytes-take c.fill-came.result.count c.fill-came.new.buf c.fill-came.ensures.range) in
    (new, rest, items, at, gives)

pub returns-clause-counted : goal.returns-clause-counted
returns-clause-counted g c =
    let n = c.args.count in
    let front = take c.fill-came.result.count c.fill-came.new.buf in
    let size = length-take c.fill-came.result.count c.fill-came.new.buf in
    let (new, over, items, read) = c.in_ok-add_entries.ensures.added in
    let taken = (entries-is n).takes c.fill-came.result.short front (new, over) read in
    c.fill-came.ensures.ends.whole (omega (arith, size, taken, c.fill-came.ensures.count))

pub returns-in_err-add_entries-clause-stops : goal.returns-in_err-add_entries-clause-stops
returns-in_err-add_entries-clause-stops g c = λ whole left here.
    let p = err_from_is_err_and c.from_residual.result c.from_residual.ensures.1 in
    let e = c.in_err-add_entries.field-0.0 in
    let n = c.args.count in
    let s = c.fill-came.result.short in
    let front = take c.fill-came.result.count c.fill-came.new.buf in
    let size = length-take c.fill-came.result.count c.fill-came.new.buf in
    let added = c.in_err-add_entries.ensures.added in
    rw (p.1, p.2) (stops_for _ (λ d. HasFault d (entries_at n)) _ left _ e
    (λ is. step_stops (List Entry) (6 * n) (entries_at n) (entries-is n) s front whole left _ _ here c.fill-came.ensures.bytes (not_lacking e faults.Read _ (λ is. absurd cc) is added))
    (λ is. ⊎_elim (λ h. absurd (c.fill-came.ensures.ends.memory (memory_from_short (List Entry) (6 * n) (entries_at n) (entries-is n) s front (h ∙ ap (λ (d : FileFault). Err d) is))))
    (λ h. step_right (List Entry) (6 * n) (entries_at n) (entries-is n) s front whole left _ _ here c.fill-came.ensures.bytes (omega (arith, size)) h.1) added)
    (λ own. step_whole (List Entry) (6 * n) (entries_at n) (entries-is n) s e front whole left _ _ _ _ here c.fill-came.ensures.bytes
    (λ lt. c.fill-came.ensures.ends.why (omega (arith, size))) own (not_lacking e e _ (own_not_memory e own) refl added)))

pub returns-in_err-add_entries-clause-counted : goal.returns-in_err-add_entries-clause-counted
returns-in_err-add_entries-clause-counted g c =
    let p = err_from_is_err_and c.from_residual.result c.from_residual.ensures.1 in
    let e = c.in_err-add_entries.field-0.0 in
    let n = c.args.count in
    let s = c.fill-came.result.short in
    let front = take c.fill-came.result.count c.fill-came.new.buf in
    let added = c.in_err-add_entries.ensures.added in
    rw (p.1, p.2) (tells e _ _
    (λ is. c.fill-came.ensures.ends.read (read_from_short (List Entry) (6 * n) (entries_at n) (entries-is n) s front (not_lacking e faults.Read _ (λ is. absurd cc) is added)))
    (λ is. step_early (List Entry) (6 * n) (entries_at n) (entries-is n) s front _ _ c.fill-came.ensures.ends.calm (not_lacking e faults.Truncated _ (λ is. absurd cc) is added))
    c.fill-came.ensures.ends.faults)
