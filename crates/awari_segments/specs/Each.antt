-- What holds of each of the blocks of a level.
use Rattle.std.specs.Prelude.{◌≡◌, ℕ, ◌+◌, ◌<◌, ◌≤◌, List, [], length, Some, All, ℤ}
use Rattle.awari_block.specs.Blocks.{due_dist, times_due, KeepSettled}
use Rattle.awari_block.specs.Boards.{OpensBoards}
use Rattle.awari_block.specs.Part.{Part, InBlock, settled_at}
use Rattle.awari_block.specs.Each.{EachTo}
use Rattle.awari_heard.specs.Level.{AreHeard, part_at}
use Rattle.awari_heard.specs.Heard.{SameBlock}

-- no board of these parts is fresh
abbrev pub NoneAreFresh : List Part → Type 0
NoneAreFresh parts = (i : ℕ) → i < length parts → (part_at parts i).fresh ≡ []

-- no fresh board of these parts is nearer than this
abbrev pub AreFrom : ℕ → List Part → Type 0
AreFrom dist parts = (i : ℕ) → i < length parts → All (λ f. dist ≤ due_dist f) (part_at parts i).fresh

-- all fresh boards of the part are farther than this
abbrev pub IsPast : ℕ → Part → Type 0
IsPast dist part = All (λ f. dist < due_dist f) part.fresh

-- the first of these blocks of which this does not hold is such afterwards, and so are those before it
abbrev pub PassesFirst : ℕ → List Part → List Part → Type 0
PassesFirst dist old new = (i : ℕ) → i < length old → ((j : ℕ) → j < i → IsPast dist (part_at old j)) → IsPast dist (part_at new i)

-- some board of these parts is fresh, and settled with this distance
abbrev pub HasDue : ℕ → List Part → Type 0
HasDue dist parts =
    (i : ℕ) × (rank : ℕ) × (v : ℤ) × (i < length parts) × InBlock (part_at parts i) rank × (settled_at (part_at parts i) rank ≡ Some (v, dist))
    × (0 < times_due (part_at parts i).fresh rank)

-- ---- what stays

-- the same boards, of which those that were settled keep value and distance
pub record KeepsBoards (old new : Part) : Type 0 where
  pub block : SameBlock old new
  pub stays : KeepSettled old.start old.cells new.cells

-- The blocks of a level go on: they keep their boards, and what was heard is again what spread boards say.
pub record GoOn (old new : List Part) : Type 0 where
  pub stays : EachTo KeepsBoards old new
  pub heard : (value : List ℕ → ℤ) → AreHeard value old → AreHeard value new

-- the same boards are fresh
abbrev pub SameFresh : Part → Part → Type 0
SameFresh old new = new.fresh ≡ old.fresh

-- ---- a gain or a distance is opened

-- no board was fresh, and the next smaller gain is opened
pub record OpensGain (gain : ℕ) (old new : Part) : Type 0 where
  pub positive : 1 ≤ gain
  pub next : old.gain ≡ gain + 1
  pub idle : old.fresh ≡ []
  pub opens : OpensBoards gain old new

-- no fresh board was nearer, and this distance is opened, which is farther than that before
pub record OpensWave (dist : ℕ) (old new : Part) : Type 0 where
  pub farther : old.wave < dist
  pub nearest : All (λ f. dist ≤ due_dist f) old.fresh
  pub opens : new ≡ record old { wave = dist }
