use Rattle.std.proofs.Common.{◌≡◌, ◌∙◌, Err, take, sym, ap, arith, length-take}
use Rattle.std.proofs.lemmas.Result.{err_from_is_err_and}
use Rattle.awari_file.specs.declared.contents.Header.{Header}
use Rattle.awari_file.specs.declared.faults.FileFault.{FileFault}
use Rattle.awari_file.specs.declared.faults.FileFault.TheVariants as faults
use Rattle.awari_file.specs.Reading.{header_at}
use Rattle.awari_file.specs.Source.{HasFault}
use Rattle.awari_file.proofs.FileLaws.{header-is, read_from_short, memory_from_short}
use Rattle.awari_file.proofs.Steps.{step_fails, step_gives, step_early, step_stops, step_whole, stops_for, fault_was}
use Rattle.awari_file.proofs.Sealed.{tells}
use Rattle.awari_file.proofs.SpellLaws.{IsBytes-take}
use Rattle.awari_file.proofs.reading.read_header.Goals as goal

pub returns-in_err-header-clause-parsed : goal.returns-in_err-header-clause-parsed
returns-in_err-header-clause-parsed g c = λ whole left here.
    let p = err_from_is_err_and c.from_residual.result c.from_residual.ensures.1 in
    let front = take c.fill-came.result.count c.fill-came.new.buf in
    let size = length-take c.fill-came.result.count c.fill-came.new.buf in
    rw (p.1, p.2) (step_fails Header 52 header_at header-is c.fill-came.result.short c.in_err-header.field-0.0 front whole left _ _ _ _ here c.fill-came.ensures.bytes
    (λ lt. c.fill-came.ensures.ends.why (omega (arith, size))) c.in_err-header.ensures.value)

pub returns-in_err-header-clause-memory : goal.returns-in_err-header-clause-memory
returns-in_err-header-clause-memory g c = λ is.
    let p = err_from_is_err_and c.from_residual.result c.from_residual.ensures.1 in
    let front = take c.fill-came.result.count c.fill-came.new.buf in
    let same : c.in_err-header.field-0.0 ≡ faults.Memory = sym p.2 ∙ fault_was c.from_residual.result p.0 faults.Memory p.1 is in
    c.fill-came.ensures.ends.memory (memory_from_short Header 52 header_at header-is c.fill-came.result.short front (c.in_err-header.ensures.value ∙ ap (λ (e : FileFault). Err e) same))

pub returns-clause-parsed : goal.returns-clause-parsed
returns-clause-parsed g c = λ whole left here.
    let front = take c.fill-came.result.count c.fill-came.new.buf in
    let size = length-take c.fill-came.result.count c.fill-came.new.buf in
    step_gives Header 52 header_at header-is c.fill-came.result.short front whole left (c.in_ok-header.header, c.in_ok-header.field-0-1.now) _ _ here c.fill-came.ensures.bytes
    (omega (arith, size)) c.in_ok-header.ensures.value (IsBytes-take c.fill-came.result.count c.fill-came.new.buf c.fill-came.ensures.range)

pub returns-clause-counted : goal.returns-clause-counted
returns-clause-counted g c =
    let front = take c.fill-came.result.count c.fill-came.new.buf in
    let size = length-take c.fill-came.result.count c.fill-came.new.buf in
    let taken = header-is.takes c.fill-came.result.short front (c.in_ok-header.header, c.in_ok-header.field-0-1.now) c.in_ok-header.ensures.value in
    c.fill-came.ensures.ends.whole (omega (arith, size, taken, c.fill-came.ensures.count))

pub returns-in_err-header-clause-stops : goal.returns-in_err-header-clause-stops
returns-in_err-header-clause-stops g c = λ whole left here.
    let p = err_from_is_err_and c.from_residual.result c.from_residual.ensures.1 in
    let e = c.in_err-header.field-0.0 in
    let s = c.fill-came.result.short in
    let front = take c.fill-came.result.count c.fill-came.new.buf in
    let size = length-take c.fill-came.result.count c.fill-came.new.buf in
    let value = c.in_err-header.ensures.value in
    rw (p.1, p.2) (stops_for _ (λ d. HasFault d header_at) _ left _ e
    (λ is. step_stops Header 52 header_at header-is s front whole left _ _ here c.fill-came.ensures.bytes (value ∙ ap (λ (d : FileFault). Err d) is))
    (λ is. c.fill-came.ensures.ends.memory (memory_from_short Header 52 header_at header-is s front (value ∙ ap (λ (d : FileFault). Err d) is)))
    (λ own. step_whole Header 52 header_at header-is s e front whole left _ _ _ _ here c.fill-came.ensures.bytes (λ lt. c.fill-came.ensures.ends.why (omega (arith, size))) own value))

pub returns-in_err-header-clause-counted : goal.returns-in_err-header-clause-counted
returns-in_err-header-clause-counted g c =
    let p = err_from_is_err_and c.from_residual.result c.from_residual.ensures.1 in
    let s = c.fill-came.result.short in
    let front = take c.fill-came.result.count c.fill-came.new.buf in
    let value = c.in_err-header.ensures.value in
    rw (p.1, p.2) (tells c.in_err-header.field-0.0 _ _
    (λ is. c.fill-came.ensures.ends.read (read_from_short Header 52 header_at header-is s front (value ∙ ap (λ (d : FileFault). Err d) is)))
    (λ is. step_early Header 52 header_at header-is s front _ _ c.fill-came.ensures.ends.calm (value ∙ ap (λ (d : FileFault). Err d) is))
    c.fill-came.ensures.ends.faults)
