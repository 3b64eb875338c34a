use Rattle.std.proofs.Common.{◌≡◌, ◌*◌, ◌≤◌, length, ap, subst, ◌∙◌, arith}
use Rattle.awari_rank.specs.Rank.{size_of}
use Rattle.awari_table.specs.Images.{table_of}
use Rattle.awari_segments.proofs.Cutting.{scanned-none, scanned-more, scanned-grid, scanned-whole, scanned-idle, scanned-numbers, scanned-heard}
use Rattle.awari_segments.proofs.scanning.scanned_segments.Goals as goal

pub loop-number-init : goal.loop-number-init
loop-number-init c = scanned-none (table_of c.args.shelf.now).value (length c.args.shelf.now) c.args.span c.new-segments.result.items c.new-segments.ensures.items

pub numbered_segment-requires-clause-begun : goal.numbered_segment-requires-clause-begun
numbered_segment-requires-clause-begun c =
    let boards : c.size.result ≡ size_of (length c.args.shelf.now) = c.size.ensures.boards ∙ ap size_of c.levels.ensures.levels in
    let begun = c.segments_in-count.ensures.begun c.loop-number.number c.loop-number-test.true in
    omega (arith, begun, boards)

pub loop-number-preserved : goal.loop-number-preserved
loop-number-preserved c =
    let boards : c.size.result ≡ size_of (length c.args.shelf.now) = c.size.ensures.boards ∙ ap size_of c.levels.ensures.levels in
    let begun = c.segments_in-count.ensures.begun c.loop-number.number c.loop-number-test.true in
    scanned-more (table_of c.args.shelf.now).value (length c.args.shelf.now) c.args.span c.loop-number.number c.loop-number.segments.items _ c.in_ok-segment.segment
    c.requires.some c.loop-number.invariant (omega (arith, begun, boards)) c.in_ok-segment.ensures c.in_ok-push.ensures.items

pub returns : goal.returns
returns c =
    let value = (table_of c.args.shelf.now).value in
    let n = length c.args.shelf.now in
    let span = c.args.span in
    let parts = c.loop-number.segments.items in
    let number = c.loop-number.number in
    let low : n ≤ 24 = omega (arith, c.requires.low) in
    let boards : c.size.result ≡ size_of n = c.size.ensures.boards ∙ ap size_of c.levels.ensures.levels in
    let end : c.segments_in-count.result ≡ number = omega (arith, c.loop-number-test.false, c.loop-number.auto.number-end) in
    let all : size_of n ≤ number * span = subst (λ k. size_of n ≤ k * span) end (let a = c.segments_in-count.ensures.all in omega (arith, a, boards)) in
    let done = c.loop-number.invariant in
    let numbers = scanned-numbers value n span number parts low c.requires.some done all (omega (arith, c.size.ensures.some, boards)) in
    record {
      grid = scanned-grid value n span number parts low c.requires.some done all;
      whole = scanned-whole value n span number parts low c.requires.some done all;
      idle = scanned-idle value n span number parts low c.requires.some done all;
      heard = scanned-heard value n span number parts low c.requires.some done all;
      numbers = numbers;
    }
