use Rattle.std.proofs.Common.{◌≤◌, List, sym, subst₂}
use Rattle.awari_block.specs.Blocks.{Due, due_dist}
use Rattle.awari_segments.specs.Lists.{dues_of}
use Rattle.awari_block.proofs.ListParts.{All-append_second}
use Rattle.awari_segments.proofs.NearestList.{AreFar}
use Rattle.awari_segments.proofs.dues.are_from.Goals as goal

pub are_empty_to-requires-then-are_empty_to : goal.are_empty_to-requires-then-are_empty_to
are_empty_to-requires-then-are_empty_to c = record {
  empty = All-append_second (λ (f : Due). c.wave-wave.result ≤ due_dist f) (dues_of c.fresh-fresh.result.now.lost) (dues_of c.fresh-fresh.result.now.won)
      (subst₂ (λ (fs : List Due) w. AreFar fs w) (sym c.fresh-fresh.ensures.dues) (sym c.wave-wave.ensures.wave) c.wave-wave.ensures.from);
}
