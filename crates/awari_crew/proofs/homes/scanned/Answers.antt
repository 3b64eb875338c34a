use Rattle.awari_table.specs.Images.{table_of}
use Rattle.awari_crew.proofs.Beginning.{begun_more}
use Rattle.awari_crew.proofs.homes.scanned.Goals as goal

pub loop-number-preserved : goal.loop-number-preserved
loop-number-preserved c =
    begun_more (table_of c.args.member.now.shelf).value _ c.args.member.now.level _ _ c.loop-number.segments.items c.push.new.self.items c.in_ok-segment.segment c.args.member.now.next c.loop-number.invariant c.in_ok-segment.ensures
    c.in_ok-push.ensures.items
