-- What stays of a part that is settled further.
use Rattle.std.proofs.Common.{◌≡◌, ℕ, arith}
use Rattle.awari_block.specs.Part.{Part, SameLevel}
use Rattle.awari_block.specs.Boards.{Settles, stake_of}
use Rattle.awari_segments.specs.Segments.{IsCodeFor}

pub code_still : (old now : Part) (code : ℕ) → Settles old now → IsCodeFor old code → IsCodeFor now code
code_still old now code settles is =
    let a = is.0.0 in
    let b = is.0.1 in
    let size = settles.size in
    ((omega (arith, a, settles.same.start), omega (arith, b, size, settles.same.start)), is.1)

pub stake_still : (old new : Part) → SameLevel old new → stake_of new ≡ stake_of old
stake_still old new same = λ i. record { level = same.level i; gain = same.gain i; wave = same.wave i }
