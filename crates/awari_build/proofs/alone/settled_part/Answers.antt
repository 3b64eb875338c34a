use Rattle.std.proofs.Common.{refl, ◌∙◌, rules}
use Rattle.awari_table.specs.Images.{table_of}
use Rattle.awari_build.proofs.OnePart.{alone_still, one_settled, sound_opened}
use Rattle.awari_build.proofs.alone.settled_part.Goals as goal

pub spread_all-requires-clause-sound : goal.spread_all-requires-clause-sound
spread_all-requires-clause-sound g c =
    ((table_of c.args.shelf.now).value, sound_opened _ _ _ c.open_gain.ensures.tallied c.open_gain.ensures.own c.loop-part.invariant.sound)

pub spread_all-requires-clause-alone : goal.spread_all-requires-clause-alone
spread_all-requires-clause-alone g c =
    let opened = c.open_gain.ensures.settles in
    alone_still _ _ _ _ opened.same.level opened.same.start opened.size refl refl c.loop-part.invariant.alone

pub loop-part-preserved : goal.loop-part-preserved
loop-part-preserved g c =
    let before = c.loop-part.invariant in
    let spread = c.in_ok-spread_all.ensures in
    record {
      alone = spread.alone;
      level = spread.stays.level ∙ c.open_gain.ensures.settles.same.level ∙ before.level;
      idle = spread.idle;
      sound = spread.stays.sound _ (sound_opened _ _ _ c.open_gain.ensures.tallied c.open_gain.ensures.own before.sound);
    }

pub returns-clause-settled : goal.returns-clause-settled
returns-clause-settled g c =
    let law = c.one_part_hears_all.ensures in
    let at = c.loop-part.invariant in
    one_settled law.whole law.heard c.args.shelf.now c.loop-part.part _ c.in_ok-parts.ensures at.level at.alone.whole (search rules) at.sound
