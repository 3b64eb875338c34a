use Rattle.std.proofs.Common.{◌*◌, ◌%◌, ◌^◌, ◌≡◌, ◌+◌, ◌≤◌, length, sym, subst, arith}
use Rattle.std.proofs.lemmas.Nat.{pow_below}
use Rattle.awari_heard.specs.Level.{AreWhole}
use Rattle.awari_segments.specs.Segments.{AreSegments}
use Rattle.awari_segments.proofs.sliced.SlicedLevel.begin.Goals as goal

pub invariant_of-result : goal.invariant_of-result
invariant_of-result c =
    let number = c.levels-level.ensures.levels in
    let low : c.levels-level.result ≤ 24 = omega (arith, number, c.requires.low) in
    let few = c.in_ok-segments.ensures.numbers.1 in
    let len = c.in_ok-segments.segments.ok.0 in
    let short = pow_below c.log_of-log.result 32 c.log_of-log.ensures in
    let span : 1 * 2 ^ c.log_of-log.result % 4294967296 ≡ 2 ^ c.log_of-log.result = omega (arith, short) in
    record {
      low = low;
      opened = omega arith;
      short = c.log_of-log.ensures;
      numbers = omega (arith, len, few);
      grid = subst (λ n. AreSegments (record { level = n; gain = n + 1; wave = 0 }) (2 ^ c.log_of-log.result) c.in_ok-segments.segments.items) (sym number)
          (subst (λ s. AreSegments (record { level = length c.args.shelf.now; gain = length c.args.shelf.now + 1; wave = 0 }) s c.in_ok-segments.segments.items) span c.in_ok-segments.ensures.grid);
      whole = subst (λ n. AreWhole n c.in_ok-segments.segments.items) (sym number) c.in_ok-segments.ensures.whole;
      indexed = c.in_ok-index.ensures;
    }
