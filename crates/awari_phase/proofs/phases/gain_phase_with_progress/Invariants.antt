use Rattle.std.proofs.Common.{ℕ, ℤ, List}
use Rattle.awari_phase.specs.Owners.{AllGrown, AreTogether}
use Rattle.awari_phase.proofs.phases.gain_phase_with_progress.Given as goal

abbrev pub invariant-loop : goal.invariant-loop
invariant-loop g l = record {
  grown : AllGrown l.fn.owners.items l.all.items;
  together : (value : List ℕ → ℤ) (n : ℕ) → AreTogether value n l.fn.owners.items → AreTogether value n l.all.items;
}
