use Rattle.std.proofs.Common.{◌≡◌, ◌∙◌, ◌++◌, [], ℕ, List, sym, ap, subst, min}
use Rattle.std.specs.Prelude.{IsOk}
use Rattle.std.proofs.lemmas.Result.{err_from_is_err_and}
use Rattle.awari_table.specs.declared.images.Entry.{Entry}
use Rattle.awari_file.specs.declared.faults.FileFault.TheVariants.{Truncated}
use Rattle.awari_file.specs.declared.sizes.TheConstants.{BUFFERED}
use Rattle.awari_file.specs.Reading.{entries_at, header_at}
use Rattle.awari_file.specs.Source.{HasFault, IsRefused}
use Rattle.awari_file.proofs.WholeLaws.{start_at, header_bad, entries_bad, stops_in_header, stops_in_entries, fault_in_header, fault_in_entries, loaded_of}
use Rattle.awari_file.proofs.WholeSpell.{body_taken}
use Rattle.awari_file.proofs.Sealed.{known_unsealed, known_stops, taken_as, end_stops}
use Rattle.awari_file.proofs.Steps.{stops_along}
use Rattle.awari_file.proofs.reading.read_unsealed.Goals as goal

pub returns-in_err-version-clause-fault : goal.returns-in_err-version-clause-fault
returns-in_err-version-clause-fault g c =
    let p = err_from_is_err_and c.from_residual.result c.from_residual.ensures.1 in
    let e = c.in_err-version.field-0.0 in
    rw (p.1, p.2) (known_stops _ _ e (λ xs known.
    let start = start_at xs _ known in (
      header_bad e xs (c.in_err-version.ensures.parsed xs xs start),
      stops_along _ _ (λ d. HasFault d header_at) IsRefused _ _ xs xs _ e (stops_in_header xs _) (λ d stop. fault_in_header d xs _ stop) (λ never. absurd never) (c.in_err-version.ensures.stops xs xs start),
    )))

pub returns-in_err-read_entries-clause-fault : goal.returns-in_err-read_entries-clause-fault
returns-in_err-read_entries-clause-fault g c =
    let p = err_from_is_err_and c.from_residual-in_err-read_entries.result c.from_residual-in_err-read_entries.ensures.1 in
    let e = c.in_err-read_entries.field-0.0 in
    rw (p.1, p.2) (known_stops _ _ e (λ xs known.
    let start = start_at xs _ known in
    let (rest, at, header) = c.in_ok-version.ensures.parsed xs xs start in
    let n = c.size.ensures.boards in (
      entries_bad e xs _ rest c.size.result n header (c.in_err-read_entries.ensures.parsed xs rest at),
      stops_along _ _ (λ d. HasFault d (entries_at c.size.result)) IsRefused _ _ rest xs _ e (stops_in_entries xs _ rest c.size.result _ n header) (λ d stop. fault_in_entries d xs _ rest c.size.result _ n header stop)
          (λ right. (_, rest, header, subst (λ (k : ℕ). IsOk (entries_at (min k BUFFERED) Truncated rest)) n right)) (c.in_err-read_entries.ensures.stops xs rest at),
    )))

pub returns-in_err-digest-clause-fault : goal.returns-in_err-digest-clause-fault
returns-in_err-digest-clause-fault g c =
    let p = err_from_is_err_and c.from_residual-in_err-digest.result c.from_residual-in_err-digest.ensures.1 in
    let e = c.in_err-digest.field-0.0 in
    rw (p.1, p.2) (known_stops _ _ e (λ xs known.
    let start = start_at xs _ known in
    let (rest, at, header) = c.in_ok-version.ensures.parsed xs xs start in
    let (new, left, items, at2, entries) = c.in_ok-read_entries.ensures.parsed xs rest at in
    let (has, body) = body_taken xs rest left at2.done _ c.size.result new c.size.ensures.boards header entries at2.parts at2.bytes in
    end_stops e (loaded_of _ new []) xs left _ has (at2.parts ∙ ap (λ (l : List ℕ). l ++ left) body) (c.in_err-digest.ensures.short left at2.known_is)))

pub returns-clause-found : goal.returns-clause-found
returns-clause-found g c =
    known_unsealed _ _ _ (λ xs known.
    let start = start_at xs _ known in
    let (rest, at, header) = c.in_ok-version.ensures.parsed xs xs start in
    let (new, left, items, at2, entries) = c.in_ok-read_entries.ensures.parsed xs rest at in
    let h = c.in_ok-version.field-0 in
    let same : new ≡ c.read_entries.new.entries = sym (items ∙ ap (λ (l : List Entry). l ++ new) c.new-entries.ensures) in
    let (has, body) = taken_as xs h new c.read_entries.new.entries at2.done same (body_taken xs rest left at2.done h c.size.result new c.size.ensures.boards header entries at2.parts at2.bytes) in
    record {
      left = left;
      has = has;
      parts = at2.parts ∙ ap (λ (l : List ℕ). l ++ left) body;
      ends = c.in_ok-digest.ensures.ends left at2.known_is;
    })
