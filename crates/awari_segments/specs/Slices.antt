-- What is seen of a level that is begun, and how it goes on.
use Rattle.std.specs.Prelude.{◌≡◌, ℕ, zero, suc, ◌+◌, ◌^◌, ◌<◌, ◌≤◌, ◌⊎◌, List, vec_len}
use Rattle.awari_block.specs.Part.{Part}
use Rattle.awari_heard.specs.Level.{AreWhole}
use Rattle.awari_segments.specs.Each.{AreFrom, GoOn, HasDue, NoneAreFresh, PassesFirst}
use Rattle.awari_segments.specs.Segments.{AreSegments}
use Rattle.awari_segments.specs.declared.sliced.SlicedLevel.TheInside.{Inside}

-- the stones on the boards of the level, the open gain and wave, and its segments in order of rank
pub record SlicedView : Type 0 where
  pub level : ℕ
  pub gain : ℕ
  pub wave : ℕ
  pub parts : List Part

-- All boards of the level are in segments of one length, of which each has the same stake.
pub record IsSliced (d : Inside) : Type 0 where
  pub low : d.stake.level ≤ 24
  pub opened : 1 ≤ d.stake.gain
  pub short : d.log < 32
  pub numbers : vec_len d.segments < 2 ^ 32
  pub grid : AreSegments d.stake (2 ^ d.log) d.segments.items
  pub whole : AreWhole d.stake.level d.segments.items
  pub indexed : d.index ≡ d.stake.level

-- the same level goes on
pub record GoesOn (old new : SlicedView) : Type 0 where
  pub level : new.level ≡ old.level
  pub parts : GoOn old.parts new.parts

-- of the least distance of a fresh board, the first block that has such boards has none afterwards
abbrev pub SpreadsNearest : List Part → List Part → Type 0
SpreadsNearest old new = (dist : ℕ) × AreFrom dist old × HasDue dist old × PassesFirst dist old new

-- A slice of a level is built: the next gain is opened if no board is fresh, and else some boards are spread. So a loop of slices
-- comes to an end.
pub record IsSlice (old new : SlicedView) : Type 0 where
  pub goes_on : GoesOn old new
  pub opens : NoneAreFresh old.parts → 2 ≤ old.gain → new.gain + 1 ≡ old.gain
  pub spreads : NoneAreFresh old.parts ⊎ SpreadsNearest old.parts new.parts

-- this many slices are, one after the other
abbrev pub AreSlices : ℕ → SlicedView → SlicedView → Type 0
AreSlices zero old new = new ≡ old
AreSlices (suc n) old new = (mid : SlicedView) × AreSlices n old mid × IsSlice mid new
