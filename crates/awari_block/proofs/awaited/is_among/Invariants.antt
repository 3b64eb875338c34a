use Rattle.std.proofs.Common.{◌≡◌, ◌≢◌, ◌<◌, ℕ, false, get_or}
use Rattle.awari_block.proofs.awaited.is_among.Given as goal

abbrev pub invariant-loop-awaited : goal.invariant-loop-awaited
invariant-loop-awaited l = l.found ≡ false → (k d : ℕ) → k < l.awaited-index → get_or l.awaits k d ≢ l.gain
