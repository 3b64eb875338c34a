use Rattle.std.proofs.lemmas.List.{drop_all, drop_more}
use Rattle.std.proofs.Common.{◌+◌, List, ℕ, drop, slice_index_or, sym, subst}
use Rattle.awari_block.specs.Boards.{stake_of}
use Rattle.awari_segments.proofs.Hearings.{past_none, past_both}
use Rattle.awari_segments.proofs.Ahead.{settled_still}
use Rattle.awari_segments.proofs.Telling.{code_still, stake_still}
use Rattle.awari_segments.specs.Segments.{notes_by}
use Rattle.awari_segments.specs.Tellings.{HearsSurely}
use Rattle.awari_segments.proofs.Surely.{surely_none, surely_more}
use Rattle.awari_segments.proofs.hearing.hear_batch.Goals as goal

pub loop-k-init : goal.loop-k-init
loop-k-init c = record { settles = past_none _; hears = λ new hears. hears }

pub hear_unheard-requires-clause-code : goal.hear_unheard-requires-clause-code
hear_unheard-requires-clause-code c = code_still _ _ _ c.loop-k.invariant.settles.settles (c.in-Some.ensures.codes c.loop-k.k 0 c.loop-k-test.true)

pub hear_unheard-requires-clause-settled : goal.hear_unheard-requires-clause-settled
hear_unheard-requires-clause-settled c =
    λ told. settled_still _ _ _ c.loop-k.invariant.settles.settles (c.in-Some.ensures.codes c.loop-k.k 0 c.loop-k-test.true).0 (c.in-Some.ensures.settled c.loop-k.k c.loop-k-test.true told)

pub loop-k-preserved : goal.loop-k-preserved
loop-k-preserved c =
    record {
      settles = past_both _ _ _ c.loop-k.invariant.settles c.in_ok-hear_unheard.ensures.settles;
      hears = λ new hears.
          c.loop-k.invariant.hears new
          (subst (λ (cs : List ℕ). HearsSurely (notes_by (stake_of c.args.segment.now) c.args.kind cs) c.loop-k.segment new) (sym (drop_more c.args.codes.now c.loop-k.k 0 c.loop-k-test.true))
          (surely_more (stake_of c.args.segment.now) c.loop-k.segment c.hear_unheard.new.segment new c.args.kind (slice_index_or c.args.codes.now c.loop-k.k 0) (drop (c.loop-k.k + 1) c.args.codes.now) (stake_still _ _ c.loop-k.invariant.settles.settles.same) c.in_ok-hear_unheard.ensures.hears hears));
    }

pub returns-clause-hears : goal.returns-clause-hears
returns-clause-hears c =
    c.loop-k.invariant.hears c.loop-k.segment
    (subst (λ (cs : List ℕ). HearsSurely (notes_by (stake_of c.args.segment.now) c.args.kind cs) c.loop-k.segment c.loop-k.segment) (sym (drop_all c.loop-k.k c.args.codes.now c.loop-k-test.false)) (surely_none c.loop-k.segment))
