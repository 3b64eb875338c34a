use Rattle.std.proofs.Common.{◌≡◌, ℕ, List, ◌++◌, Option, take}
use Rattle.awari_streams.specs.Counted.{inner_of, faults_of}
use Rattle.awari_desk.specs.Coming.{Serving}
use Rattle.awari_desk.proofs.services.feed.Given as goal

abbrev pub invariant-loop-byte : goal.invariant-loop-byte
invariant-loop-byte g l = record {
  serving : (first : _) (before : Option (List ℕ)) (taken : List ℕ)
      → Serving g.O.Oracle.answering first before taken (g.W.Write.contents (inner_of l.fn.output)) l.fn.oracle l.fn.coming
      → Serving g.O.Oracle.answering first before (taken ++ take l.byte-index l.bytes) (g.W.Write.contents (inner_of l.output)) l.oracle l.coming;
  same : faults_of l.output ≡ faults_of l.fn.output;
}
