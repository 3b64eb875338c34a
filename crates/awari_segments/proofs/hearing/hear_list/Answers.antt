use Rattle.std.proofs.lemmas.List.{drop_all}
use Rattle.std.proofs.Common.{List, ℕ, sym, subst, arith}
use Rattle.awari_block.specs.Boards.{stake_of}
use Rattle.awari_segments.proofs.Hearings.{past_none, past_both}
use Rattle.awari_segments.proofs.Telling.{stake_still}
use Rattle.awari_segments.specs.Segments.{notes_by}
use Rattle.awari_segments.specs.Tellings.{HearsSurely}
use Rattle.awari_segments.proofs.Surely.{surely_none, surely_batch}
use Rattle.awari_segments.proofs.hearing.hear_list.Goals as goal

pub loop-start-init : goal.loop-start-init
loop-start-init c = record { settles = past_none _; hears = λ new hears. hears }

pub loop-start-preserved : goal.loop-start-preserved
loop-start-preserved c =
    let test = c.loop-start-test.true in
    let min = c.min-end.ensures in
    record {
      settles = past_both _ _ _ c.loop-start.invariant.settles c.in_ok-hear_batch.ensures.settles;
      hears = λ new hears.
          c.loop-start.invariant.hears new
          (surely_batch (stake_of c.args.segment.now) c.loop-start.segment c.hear_batch.new.segment new c.args.kind c.args.codes.now c.loop-start.start c.min-end.result (stake_still _ _ c.loop-start.invariant.settles.settles.same)
          (omega (arith, test, min)) c.in_ok-hear_batch.ensures.hears hears);
    }

pub returns-clause-hears : goal.returns-clause-hears
returns-clause-hears c =
    c.loop-start.invariant.hears c.loop-start.segment
    (subst (λ (cs : List ℕ). HearsSurely (notes_by (stake_of c.args.segment.now) c.args.kind cs) c.loop-start.segment c.loop-start.segment) (sym (drop_all c.loop-start.start c.args.codes.now c.loop-start-test.false)) (surely_none c.loop-start.segment))
