use Rattle.awari_segments.proofs.Spans.{begun_all, spans_all}
use Rattle.awari_segments.proofs.scanning.segments_in.Goals as goal

pub returns : goal.returns
returns c =
    let count = c.div_ceil.result in
    record {
      begun = λ k h. begun_all count c.args.boards c.args.span k c.requires c.div_ceil.ensures h;
      all = spans_all count c.args.boards c.args.span c.requires c.div_ceil.ensures;
    }
