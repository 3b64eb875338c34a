use Rattle.std.proofs.Common.{◌≡◌, ◌<◌, ◌≤◌, ℕ, get_or, length}
use Rattle.awari_heard.specs.Level.{no_part}
use Rattle.awari_owner.specs.Sound.{OpensGain}
use Rattle.awari_core.proofs.openings.open_gains.Given as goal

abbrev pub invariant-loop-part : goal.invariant-loop-part
invariant-loop-part l = record {
  count : length l.part-items ≡ length l.fn.parts.items;
  opened : (k : ℕ) → k < l.part-index → OpensGain l.gain (get_or l.fn.parts.items k no_part) (get_or l.part-items k no_part);
  later : (k : ℕ) → l.part-index ≤ k → get_or l.part-items k no_part ≡ get_or l.fn.parts.items k no_part;
}
