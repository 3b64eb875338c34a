use Rattle.std.proofs.Common.{◌≡◌}
use Rattle.awari_places.specs.Runs.{AreEntriesOf}
use Rattle.awari_places.proofs.runs.split.Given as goal

abbrev pub invariant-loop-place : goal.invariant-loop-place
invariant-loop-place l = record {
  first : l.run.first ≡ l.fn.run.first;
  count : l.run.count ≡ l.place;
  entries : AreEntriesOf l.bytes l.run;
}
