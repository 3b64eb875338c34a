-- The file of the next level that was read and is in its place, and what was looked at of it.
use Rattle.std.specs.Prelude.{◌≡◌, ◌⊎◌, ◌↔◌, ◌<◌, ◌≤◌, ◌+◌, ⊤, Bool, true, false, ℕ, List, Option, Ok}
use Rattle.awari_table.specs.declared.TheConstants.{HIGHEST_LEVEL}
use Rattle.awari_table.specs.declared.images.Image.{Image}
use Rattle.awari_file.specs.declared.sealing.Unsealed.{Unsealed}
use Rattle.awari_file.specs.Sealing.{IsUnsealed, Seals}
use Rattle.awari_verify.specs.Shares.{has_seen, IsShareOf}
use Rattle.awari_verify.specs.declared.shares.Share.{Share}

-- the file, whether its digest was compared and is right, and what was looked at of its boards
pub record CandidateView : Type 0 where
  pub file : Unsealed
  pub sealed : Bool
  pub share : Share

-- What was looked at is so over this shelf.
pub record IsCandidate (shelf : List Image) (c : CandidateView) : Type 0 where
  pub low : c.file.loaded.image.level ≤ HIGHEST_LEVEL
  pub sealed : c.sealed ≡ true → Seals {X = ⊤} c.file (Ok tt)
  pub looked : IsShareOf shelf c.file.loaded.image c.share

-- Its file is of version 2, over the one that ends in this digest.
pub record IsOverFile (below : List ℕ) (c : CandidateView) : Type 0 where
  pub late : 2 ≤ c.file.loaded.version
  pub over : c.file.loaded.below ≡ below

-- Its file was read from these bytes.
abbrev pub IsReadFrom : CandidateView → List ℕ → Type 0
IsReadFrom c bytes = (known : Option (List ℕ)) × IsUnsealed c.file bytes known

-- Nothing of it was looked at.
pub record IsUntouched (c : CandidateView) : Type 0 where
  pub digest : c.sealed ≡ false
  pub pieces : (k : ℕ) → has_seen c.share k ≡ true → ⊥

-- What comes of a look at a part: of part 0 whether the digest is right, and of each other that its piece was looked at.
pub record LooksAtPart (old : CandidateView) (part : ℕ) (new : CandidateView) : Type 0 where
  pub same : new.file ≡ old.file
  pub digest : part ≡ 0 → (new.share ≡ old.share) × ((new.sealed ≡ true) ↔ Seals {X = ⊤} old.file (Ok tt))
  pub piece : 0 < part → (new.sealed ≡ old.sealed) × ((k : ℕ) → (has_seen new.share k ≡ true) ↔ ((has_seen old.share k ≡ true) ⊎ (k + 1 ≡ part)))

-- What either looked at was looked at.
pub record Joins (old other new : CandidateView) : Type 0 where
  pub same : new.file ≡ old.file
  pub digest : (new.sealed ≡ true) ↔ ((old.sealed ≡ true) ⊎ (other.sealed ≡ true))
  pub pieces : (k : ℕ) → (has_seen new.share k ≡ true) ↔ ((has_seen old.share k ≡ true) ⊎ (has_seen other.share k ≡ true))
