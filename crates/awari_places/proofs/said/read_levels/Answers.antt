use Rattle.std.proofs.Common.{◌≡◌, ◌+◌, ◌<◌, ◌≤◌, ◌∷◌, [], length, ap, arith, ◌∙◌}
use Rattle.std.proofs.lemmas.List.{length-append}
use Rattle.awari_folder.proofs.States.{unchanged_then}
use Rattle.awari_places.proofs.Collecting.{formed-more, levels-all, levels-more}
use Rattle.awari_places.proofs.Reading.{still_says}
use Rattle.awari_places.proofs.said.read_levels.Goals as goal

pub loop-level-preserved : goal.loop-level-preserved
loop-level-preserved g c =
    let i = c.loop-level.invariant in
    let below : c.loop-level.level < c.args.levels = omega (arith, c.loop-level-test.true, c.loop-level.auto.level-end) in
    let low : c.loop-level.level ≤ 24 = omega (arith, below, c.requires) in
    let long : length c.push.new.self.items ≡ length c.loop-level.read.items + 1 = ap length c.in-Ok-push.ensures.items ∙ length-append c.loop-level.read.items (c.in-Ok.image ∷ []) in
    record {
      many = omega (arith, long, i.many);
      formed = formed-more c.loop-level.read.items c.push.new.self.items c.in-Ok.image c.loop-level.level i.formed i.many low c.in-Ok.ensures.number c.in-Ok.ensures.sized c.in-Ok-push.ensures.items;
      unchanged = unchanged_then _ _ _ i.unchanged c.in-Ok.ensures.same;
      said = λ images says.
          levels-more images c.loop-level.read.items c.push.new.self.items c.in-Ok.image c.loop-level.level (i.said images says)
          (c.in-Ok.ensures.image c.args.levels images (still_says _ _ c.args.levels images i.unchanged.stands says) below) c.in-Ok-push.ensures.items;
    }

pub returns-clause-said : goal.returns-clause-said
returns-clause-said g c = λ images says.
    levels-all _ c.args.levels c.loop-level.level images c.loop-level.read.items says (c.loop-level.invariant.said images says) (omega (arith, c.loop-level-test.false, c.loop-level.auto.level-end))

pub returns-in-Err-clause-fault : goal.returns-in-Err-clause-fault
returns-in-Err-clause-fault g c = λ names known.
    let below : c.loop-level.level < c.args.levels = omega (arith, c.loop-level-test.true, c.loop-level.auto.level-end) in
    let there = c.loop-level.invariant.unchanged.stands c.loop-level.level ∙ known c.loop-level.level in
    record { level = c.loop-level.level; low = below; due = c.in-Err.ensures.fault (names c.loop-level.level) there }
