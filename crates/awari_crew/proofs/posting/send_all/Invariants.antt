use Rattle.std.specs.Arc.{arc_value}
use Rattle.awari_segments.specs.Tellings.{telling_of}
use Rattle.awari_crew.proofs.Posts.{SendsBelow}
use Rattle.awari_crew.proofs.posting.send_all.Given as goal

abbrev pub invariant-loop-place : goal.invariant-loop-place
invariant-loop-place l = SendsBelow l.place (telling_of l.stake (arc_value l.row)) l.initial.ends l.ends
