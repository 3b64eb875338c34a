use Rattle.std.proofs.Common.{[], ap, arith, length, refl, sym, ◌∙◌}
use Rattle.awari_folder.proofs.States.{unchanged, unchanged_then}
use Rattle.awari_facts.proofs.SourceLaws.{says_still}
use Rattle.awari_levels.proofs.WalkLaws.{count-step, drawn-all}
use Rattle.awari_levels.proofs.listing.count_taken.Goals.{then-is_some, else-is_some}
use Rattle.awari_levels.proofs.listing.count_taken.Goals as goal

pub loop-rank-init : goal.loop-rank-init
loop-rank-init g c = record {
  few = omega (arith, c.in_ok-walk.ensures.none);
  fewer = omega arith;
  unchanged = unchanged _;
  counted = λ images says found. ([], c.in_ok-walk.ensures.walked c.args.choice.asked.wanted.now images c.args.choice.asked.level, refl);
}

pub loop-rank-preserved : goal.loop-rank-preserved
loop-rank-preserved g c =
    let i = c.loop-rank.invariant in
    elim c.if-is_some.branch [
      | then-is_some w ↦ record {
        few = c.in_ok-step.ensures.walked;
        fewer = omega (arith, i.fewer, w.count-is);
        unchanged = unchanged_then _ _ _ i.unchanged c.in_ok-step.ensures.same;
        counted = λ images says found.
            let before = i.counted images says found in
            count-step c.args.choice.asked.wanted.now images c.args.choice.asked.level c.loop-rank.rank c.loop-rank.count c.if-is_some.count c.args.choice.sample before.0 c.in_ok-step.field-0 _ _
            (sym w.if-is_some.true ∙ c.is_some.ensures) (c.in_ok-step.ensures.stepped images (says_still c.args.choice.asked.source _ _ images i.unchanged.stands says) found before.0 before.1) before.2 w.count-is;
      }
      | else-is_some w ↦ record {
        few = c.in_ok-step.ensures.walked;
        fewer = omega (arith, i.fewer, w.count-is);
        unchanged = unchanged_then _ _ _ i.unchanged c.in_ok-step.ensures.same;
        counted = λ images says found.
            let before = i.counted images says found in
            count-step c.args.choice.asked.wanted.now images c.args.choice.asked.level c.loop-rank.rank c.loop-rank.count c.if-is_some.count c.args.choice.sample before.0 c.in_ok-step.field-0 _ _
            (sym w.if-is_some.false ∙ c.is_some.ensures) (c.in_ok-step.ensures.stepped images (says_still c.args.choice.asked.source _ _ images i.unchanged.stands says) found before.0 before.1) before.2 (omega (arith, w.count-is));
      }
    ]

pub returns-clause-counted : goal.returns-clause-counted
returns-clause-counted g c = λ images says found.
    let all = c.loop-rank.invariant.counted images says found in
    all.2 ∙ ap length (drawn-all _ images c.args.choice.asked.level _ _ _ _ all.0 all.1.drawn (omega (arith, c.size-rank-end.ensures.boards)))
