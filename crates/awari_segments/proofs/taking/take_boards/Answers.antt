use Rattle.std.proofs.Common.{◌<◌, ◌≤◌, ◌+◌, inl, inr, List, ℕ, length, set, sym, subst, subst₂, rules, arith}
use Rattle.std.proofs.lemmas.List.{get_or_default}
use Rattle.awari_block.specs.Part.{Part}
use Rattle.awari_heard.specs.Level.{no_part}
use Rattle.awari_segments.specs.Taken.{TakesFrom, TakesOf}
use Rattle.awari_segments.proofs.Takes.{takes_more}
use Rattle.awari_segments.proofs.Passing.{PassesBelow-more, passes_first}
use Rattle.awari_segments.proofs.taking.take_boards.Goals as goal

pub loop-k-preserved : goal.loop-k-preserved
loop-k-preserved c =
    let of = c.in_ok-take_of.ensures.takes in
    let test = c.loop-k-test.true in
    let blocks = c.loop-k.invariant.takes.blocks in
    let inside : c.loop-k.k < length c.loop-k.segments = omega (arith, test, blocks) in
    record {
      takes = subst₂ (λ (a b : List ℕ). TakesFrom c.args.stake c.args.segments.now (set c.loop-k.segments c.loop-k.k c.take_of.new.segment) a b) (sym of.2) (sym of.3)
          (takes_more c.args.stake c.args.segments.now c.loop-k.segments c.loop-k.chunk.lost.items c.loop-k.chunk.won.items of.0 of.1 c.loop-k.k c.take_of.new.segment inside c.loop-k.invariant.takes
          (subst (λ (p : Part). TakesOf c.args.stake p c.take_of.new.segment of.0 of.1) (get_or_default c.loop-k.segments c.loop-k.k c.index-segments-k.result no_part inside) of.4));
      passes = PassesBelow-more c.args.stake.wave c.args.segments.now c.loop-k.segments c.loop-k.chunk.lost.items c.loop-k.chunk.won.items _ _ c.loop-k.k c.index-segments-k.result c.take_of.new.segment c.loop-k.invariant.passes inside
          c.in_ok-take_of.ensures.past c.in_ok-take_of.ensures.none;
    }

pub returns-then-saturating_add-most-clause-first : goal.returns-then-saturating_add-most-clause-first
returns-then-saturating_add-most-clause-first c =
    let full : c.args.most ≤ length c.loop-k.chunk.lost.items + length c.loop-k.chunk.won.items = search rules in
    passes_first c.args.stake.wave c.args.most c.args.segments.now c.loop-k.segments c.loop-k.chunk.lost.items c.loop-k.chunk.won.items c.loop-k.k c.loop-k.invariant.passes (inr full)

pub returns-clause-first : goal.returns-clause-first
returns-clause-first c =
    let blocks = c.loop-k.invariant.passes.blocks in
    let end : length c.args.segments.now ≤ c.loop-k.k = (let test = c.loop-k-test.false in omega (arith, test, blocks)) in
    passes_first c.args.stake.wave c.args.most c.args.segments.now c.loop-k.segments c.loop-k.chunk.lost.items c.loop-k.chunk.won.items c.loop-k.k c.loop-k.invariant.passes (inl end)
