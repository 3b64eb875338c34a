use Rattle.std.proofs.Common.{◌≡◌, ◌++◌, map}
use Rattle.std.specs.List.{flat_map}
use Rattle.awari_crew.specs.Homes.{brought, ends_of}
use Rattle.awari_crew.proofs.gathering.unpacked.Given as goal

abbrev pub invariant-loop-home : goal.invariant-loop-home
invariant-loop-home l = record {
  whole : l.yielded ++ l.home-iterator.rest.items ≡ l.fn.homes.items;
  ends : l.ends.items ≡ map ends_of l.yielded;
  segments : l.segments.items ≡ flat_map brought l.yielded;
}
