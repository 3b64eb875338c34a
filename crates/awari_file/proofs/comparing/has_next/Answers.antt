use Rattle.std.proofs.Common.{◌∙◌, arith, take, length-take, sym}
use Rattle.std.proofs.lemmas.Slice.Eq.{bytes_eq-Decides}
use Rattle.awari_file.proofs.Meeting.{ended, met_if, short_of}
use Rattle.awari_file.proofs.comparing.has_next.Goals as goal

pub returns-in_default : goal.returns-in_default
returns-in_default g c =
    let front = take c.fill-came.result.count c.fill-came.new.buf in
    let size = length-take c.fill-came.result.count c.fill-came.new.buf in
    record {
      met = λ left known. short_of left front c.args.bytes.now _ _ known c.fill-came.ensures.bytes
          (ended c.fill-came.result.short _ _ _ (c.fill-came.ensures.ends.why c.if-came-bytes.true) c.in_default.not-Read)
          (omega (arith, size, c.if-came-bytes.true));
      refused = c.fill-came.ensures.ends.faults;
    }

pub returns-clause-met : goal.returns-clause-met
returns-clause-met g c = λ left known.
    let front = take c.fill-came.result.count c.fill-came.new.buf in
    let size = length-take c.fill-came.result.count c.fill-came.new.buf in
    met_if c.eq.result left front c.args.bytes.now _ _ known c.fill-came.ensures.bytes (omega (arith, size, c.if-came-bytes.false, c.fill-came.ensures.count, c.requires))
    (λ is. (bytes_eq-Decides front c.args.bytes.now).0 (sym c.eq.ensures ∙ is)) (λ is same. let equal = (bytes_eq-Decides front c.args.bytes.now).1 same in cc)
