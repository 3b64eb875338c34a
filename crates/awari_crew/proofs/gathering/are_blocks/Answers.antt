use Rattle.std.proofs.Common.{◌≡◌, ◌∷◌, ◌++◌, [], ◌+◌, ◌/◌, ◌^◌, ◌<◌, ◌≤◌, List, inl, inr, length, take, get_or, sym, ap, subst, ◌∙◌, rules, arith}
use Rattle.std.proofs.lemmas.Bool.{cases_lt}
use Rattle.std.proofs.lemmas.List.{get_or_default, take_more}
use Rattle.awari_block.specs.Part.{Part}
use Rattle.awari_heard.specs.Level.{AreBlocks, no_part}
use Rattle.awari_crew.specs.Gathered.{IsAligned}
use Rattle.awari_crew.proofs.Gathered.{get_has}
use Rattle.awari_crew.proofs.Parts.{blocks_more}
use Rattle.awari_crew.proofs.gathering.are_blocks.Goals as goal

pub loop-segment-preserved : goal.loop-segment-preserved
loop-segment-preserved c =
    let segments = c.args.segments.now in
    let i = c.loop-segment.segment-index in
    let segment : Part = c.segment-item.result in
    let inside : i < length segments = search rules in
    let of_level : segment.level ≡ c.args.level = search rules in
    let at : segment.start ≡ c.loop-segment.low = search rules in
    let end : c.block-start.result.1 ≡ c.loop-segment.low + length segment.cells = search rules in
    let item : get_or segments i segment ≡ segment = search rules in
    let aligned : IsAligned (2 ^ c.args.log) segment = λ rank held.
    let start = c.block-start.ensures.start in
    let last = c.block-start.ensures.end in
    let low = held.0 in
    let high = held.1 in
    c.is_aligned.ensures c.if-not-is_aligned.false rank (omega (arith, start, low)) (omega (arith, last, low, high)) ∙ ap (λ n. n / 2 ^ c.args.log) start in
    record {
      blocks = subst (λ (ps : List Part). AreBlocks c.args.level 0 c.block-start.result.1 ps) (sym (take_more segments i segment inside ∙ ap (λ (p : Part). take i segments ++ p ∷ []) item))
          (subst (λ h. AreBlocks c.args.level 0 h (take i segments ++ segment ∷ [])) (sym end) (blocks_more c.args.level 0 c.loop-segment.low (take i segments) segment c.loop-segment.invariant.blocks of_level at));
      aligned = λ k d less. elim (cases_lt k i) [
        | inl below ↦ c.loop-segment.invariant.aligned k d below
        | inr above ↦
            let here : k ≡ i = omega (arith, less, above) in
            subst (IsAligned (2 ^ c.args.log)) (sym (ap (λ n. get_or segments n d) here ∙ get_or_default segments i d segment inside ∙ item)) aligned
      ];
    }

pub returns-clause-aligned : goal.returns-clause-aligned
returns-clause-aligned c = λ same part has.
    let segments = c.args.segments.now in
    let place = get_has segments part no_part has in
    let end : length segments ≤ c.loop-segment.segment-index = search rules in
    let low = place.1 in
    subst (IsAligned (2 ^ c.args.log)) (sym place.2) (c.loop-segment.invariant.aligned place.0 no_part (omega (arith, low, end)))
