use Rattle.std.proofs.Common.{◌≡◌, ◌++◌}
use Rattle.awari_phase.specs.Owners.{all_ends, parts_of}
use Rattle.awari_owner_tests.proofs.apart.taken_apart.Given as goal

abbrev pub invariant-loop-owner : goal.invariant-loop-owner
invariant-loop-owner l = record {
  whole : l.yielded ++ l.owner-iterator.rest.items ≡ l.fn.owners.items;
  parts : l.parts.items ≡ parts_of l.yielded;
  ends : l.ends.items ≡ all_ends l.yielded;
}
