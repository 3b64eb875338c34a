-- The boards that a member takes from the fresh ones of its segments, to tell their notes. Private functions alone go by this.
use Rattle.std.specs.Prelude.{◌≡◌, ◌⊎◌, ℕ, ◌<◌, List, length, Some}
use Rattle.awari_block.specs.Blocks.{times_due}
use Rattle.awari_block.specs.Boards.{stake_of, value_of_kind}
use Rattle.awari_block.specs.Notes.{Has}
use Rattle.awari_block.specs.Part.{Part, InBlock, settled_at}
use Rattle.awari_block.specs.declared.notes.Kind.{Kind}
use Rattle.awari_block.specs.declared.notes.Kind.TheVariants.{Won, Lost}
use Rattle.awari_block.specs.declared.stakes.Stake.{Stake}
use Rattle.awari_heard.specs.Level.{part_at}

-- a board of the part, settled at the open gain and wave, that is fresh no longer
abbrev pub IsTaken : Stake → Part → Kind → ℕ → Type 0
IsTaken stake part kind rank = InBlock part rank × (settled_at part rank ≡ Some (value_of_kind kind stake.gain, stake.wave)) × (times_due part.fresh rank ≡ 0)

-- and one of these
abbrev pub IsTakenOf : Stake → Part → Kind → List ℕ → ℕ → Type 0
IsTakenOf stake part kind ranks rank = Has ranks rank × IsTaken stake part kind rank

-- of one part these lost and these won boards were taken
pub record TakesOf (stake : Stake) (old new : Part) (lost won : List ℕ) : Type 0 where
  pub same : new ≡ record old { fresh = new.fresh }
  pub staked : stake_of old ≡ stake
  pub of_lost : (rank : ℕ) → Has lost rank → IsTaken stake new Lost rank
  pub of_won : (rank : ℕ) → Has won rank → IsTaken stake new Won rank
  pub stay : (rank : ℕ) → times_due old.fresh rank ≡ 0 → times_due new.fresh rank ≡ 0
  pub all : (rank : ℕ) → times_due new.fresh rank ≡ 0 → (times_due old.fresh rank ≡ 0) ⊎ (IsTakenOf stake new Lost lost rank ⊎ IsTakenOf stake new Won won rank)

-- and so of several parts
pub record TakesFrom (stake : Stake) (old new : List Part) (lost won : List ℕ) : Type 0 where
  pub blocks : length new ≡ length old
  pub same : (i : ℕ) → i < length old → part_at new i ≡ record (part_at old i) { fresh = (part_at new i).fresh }
  pub of_lost : (rank : ℕ) → Has lost rank → (i : ℕ) × (i < length old) × IsTaken stake (part_at new i) Lost rank
  pub of_won : (rank : ℕ) → Has won rank → (i : ℕ) × (i < length old) × IsTaken stake (part_at new i) Won rank
  pub stay : (i rank : ℕ) → i < length old → times_due (part_at old i).fresh rank ≡ 0 → times_due (part_at new i).fresh rank ≡ 0
  pub all : (i rank : ℕ) → i < length old → times_due (part_at new i).fresh rank ≡ 0
      → (times_due (part_at old i).fresh rank ≡ 0) ⊎ (IsTakenOf stake (part_at new i) Lost lost rank ⊎ IsTakenOf stake (part_at new i) Won won rank)
