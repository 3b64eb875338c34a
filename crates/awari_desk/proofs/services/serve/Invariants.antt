use Rattle.std.proofs.Common.{◌≡◌, ◌+◌, ℕ, List, length}
use Rattle.std.specs.Io.KnownBytes.{Consumes}
use Rattle.awari_streams.specs.Counted.{inner_of, faults_of}
use Rattle.awari_desk.specs.Coming.{Serving}
use Rattle.awari_desk.specs.declared.services.TheConstants.{LONGEST_INPUT}
use Rattle.awari_desk.proofs.services.serve.Given as goal

abbrev pub invariant-loop-fewer : goal.invariant-loop-fewer
invariant-loop-fewer g l = (taken : List ℕ)
    × Consumes (g.R.Read.remaining (inner_of l.fn.input)) (g.R.Read.remaining (inner_of l.input)) taken
    × Serving g.O.Oracle.answering l.fn.oracle (g.W.Write.contents (inner_of l.fn.output)) taken (g.W.Write.contents (inner_of l.output)) l.oracle l.coming
    × (length taken + l.left ≡ LONGEST_INPUT)
    × (faults_of l.input ≡ faults_of l.fn.input)
    × (faults_of l.output ≡ faults_of l.fn.output)

abbrev pub decreases-loop-fewer : goal.decreases-loop-fewer
decreases-loop-fewer g l = l.left
