use Rattle.std.proofs.Common.{Ok, length, inl, inr, ap, arith}
use Rattle.awari_owner.proofs.SpreadFaults.{fault_due}
use Rattle.awari_owner.proofs.Sharing.{whole_part}
use Rattle.awari_build.proofs.OnePart.{alone_still, one_fits, sound_spread}
use Rattle.awari_build.proofs.alone.spread_first.Goals as goal

pub spread_one-requires : goal.spread_one-requires
spread_one-requires c = record { part = whole_part c.args.part.now c.args.outboxes.now c.requires.alone.whole c.requires.alone.first c.requires.alone.one }

pub unreachable-requires-in-Err : goal.unreachable-requires-in-Err
unreachable-requires-in-Err c =
    let law = c.one_part_hears_all.ensures in
    let low = c.requires.low in
    let fits = one_fits law.whole law.heard c.requires.sound.0 c.args.part.now law.told c.distances_fit.ensures.settled (omega (arith, low)) c.requires.alone.whole c.requires.sound.1 in
    elim (fault_due c.args.part.now (length c.args.outboxes.now.queues) c.in-Err.field-0 c.in-Err.ensures.fault).1 [
      | inl far ↦ (let f = fits far.0 far.1 4294967295 far.2 far.3 in omega (arith, f))
      | inr more ↦ (let one = c.requires.alone.one in omega (arith, more, one))
    ]

pub returns-clause-alone : goal.returns-clause-alone
returns-clause-alone c =
    let stays = c.in-Ok-true.ensures.stays in
    alone_still _ _ _ _ stays.0.level.level stays.0.level.start stays.0.long stays.1 stays.2 c.requires.alone

pub returns-clause-stays : goal.returns-clause-stays
returns-clause-stays c =
    let same = c.in-Ok-true.ensures.stays.0.level in
    let first = c.in-Ok-true.ensures.spread (ap Ok c.in-Ok-true.field-0-test) in
    record { level = same.level; gain = same.gain; sound = λ value s. sound_spread value _ _ _ _ first s }
