-- What lies behind a handle, and what comes of building the next level.
use Rattle.std.specs.Prelude.{◌≡◌, ◌≢◌, ◌⊎◌, ◌↔◌, ◌<◌, ◌≤◌, ℕ, true, All, IsSomeAnd, Option, Some, None, List, ◌++◌, ◌∷◌, [], length}
use Rattle.awari_block.specs.Counts.{spread_in}
use Rattle.awari_block.specs.Part.{Part, IsClosed}
use Rattle.awari_file.specs.FileText.{file_len}
use Rattle.awari_folder.specs.Candidates.{CandidateView, IsCandidate, IsOverFile, IsReadFrom, Joins, LooksAtPart}
use Rattle.awari_folder.specs.NextFile.{IsNextFile}
use Rattle.awari_folder.specs.declared.loading.Stored.{Stored}
use Rattle.awari_heard.specs.Kept.{IsKept}
use Rattle.awari_heard.specs.Level.{AreHeard, AreWhole}
use Rattle.awari_play.specs.Least.{HasLowestPlans, IsPlannedLowest}
use Rattle.awari_table.specs.Images.{table_of}
use Rattle.awari_table.specs.Shelves.{Consistent}
use Rattle.awari_table.specs.declared.images.Image.{Image}
use Rattle.awari_theory.specs.Truth.{TellsTruth}
use Rattle.awari_segments.specs.Slices.{SlicedView, IsSlice}
use Rattle.awari_segments.specs.Each.{NoneAreFresh}
use Rattle.awari_exports.specs.declared.held.Held.TheInside.{Inside}
use Rattle.awari_exports.specs.declared.telling.PlainDraft.{PlainDraft}

-- the levels, the next one if it was begun, and the next one's file if it was read
pub record HeldView : Type 0 where
  pub stored : Stored
  pub draft : Option SlicedView
  pub candidate : Option CandidateView

-- It is the next level of these, which are not all, and it heard what its boards that were spread say.
pub record IsBegun (levels : List Image) (draft : SlicedView) : Type 0 where
  pub low : length levels ≤ 24
  pub level : draft.level ≡ length levels
  pub heard : AreHeard (table_of levels).value draft.parts

abbrev pub IfBegun : List Image → Option SlicedView → Type 0
IfBegun levels None = Unit {0}
IfBegun levels (Some draft) = IsBegun levels draft

-- the file that was read is in its place over these, and what was looked at of it is so
abbrev pub IfRead : Stored → Option CandidateView → Type 0
IfRead stored None = Unit {0}
IfRead stored (Some c) = IsCandidate stored.shelf c × IsOverFile stored.digest c

abbrev pub IsHeld : Inside → Type 0
IsHeld h = IfBegun h.stored.shelf h.draft × IfRead h.stored h.candidate

-- all its gains are closed
abbrev pub IsSettled : SlicedView → Type 0
IsSettled draft = (draft.gain ≡ 1) × NoneAreFresh draft.parts

-- The image was made of settled parts of the next level of these.
pub record IsMade (levels : List Image) (image : Image) : Type 0 where
  pub parts : List Part
  pub whole : AreWhole (length levels) parts
  pub closed : All IsClosed parts
  pub heard : AreHeard (table_of levels).value parts
  pub kept : IsKept levels parts image

-- The level is the next one of these, with the lowest plans, and tells the truth on them.
pub record IsRightNext (levels : List Image) (level : Image) : Type 0 where
  pub consistent : Consistent levels level
  pub planned : IsPlannedLowest levels level
  pub meaning : TellsTruth (levels ++ level ∷ [])

-- What comes of putting it on top and writing its file to a room: after 0 the bytes are its file, the levels tell the truth, and have
-- the lowest plans if those below have; after any other answer levels and room are as they were.
pub record PutsOn (old new : Stored) (answer : ℕ) (room file : List ℕ) : Type 0 where
  pub ok : answer ≡ 0 → IsNextFile old.shelf old.digest file new.shelf new.digest
  pub meaning : answer ≡ 0 → TellsTruth new.shelf
  pub planned : answer ≡ 0 → HasLowestPlans old.shelf → HasLowestPlans new.shelf
  pub kept : answer ≢ 0 → new ≡ old
  pub untouched : answer ≢ 0 → file ≡ room

-- It says how far a level is.
pub record TellsDraft (draft : SlicedView) (told : PlainDraft) : Type 0 where
  pub boards : told.boards ≡ spread_in draft.parts
  pub gain : told.gain ≡ draft.gain
  pub settled : (told.settled ≡ true) ↔ IsSettled draft

-- What comes of beginning the next level of these, by the answer. What was begun before stays if there are all levels, and else goes.
pub record Begins (levels : List Image) (old new : Option SlicedView) (answer : ℕ) : Type 0 where
  pub all : 24 < length levels → (answer ≡ 51) × (new ≡ old)
  pub begun : length levels ≤ 24 → ((answer ≡ 0) × IsSomeAnd new (IsBegun levels)) ⊎ ((answer ≡ 53) × (new ≡ None))

-- What comes of a slice: 59 if no level was begun, and 53 if memory ran out, and then the level is lost.
pub record Spreads (old new : Option SlicedView) (told : PlainDraft) (answer : ℕ) : Type 0 where
  pub none : old ≡ None → (answer ≡ 59) × (new ≡ None)
  pub begun : (draft : SlicedView) → old ≡ Some draft
      → ((answer ≡ 0) × IsSomeAnd new (λ after. IsSlice draft after × TellsDraft after told)) ⊎ ((answer ≡ 53) × (new ≡ None))

-- What comes of finishing a level that is to have a file of this many bytes: 59 if none was begun or not all its gains are closed, 70
-- if its file has another length, and 53 if memory ran out. It is begun no more after 0 and 53.
pub record Finishes (levels : List Image) (old new : Option SlicedView) (room answer : ℕ) : Type 0 where
  pub none : old ≡ None → (answer ≡ 59) × (new ≡ None)
  pub unsettled : (draft : SlicedView) → old ≡ Some draft → (IsSettled draft → ⊥) → (answer ≡ 59) × (new ≡ old)
  pub unfit : (draft : SlicedView) → old ≡ Some draft → IsSettled draft → room ≢ file_len (length levels) → (answer ≡ 70) × (new ≡ old)
  pub settled : (draft : SlicedView) → old ≡ Some draft → IsSettled draft → room ≡ file_len (length levels)
      → ((answer ≡ 0) ⊎ (answer ≡ 53)) × (new ≡ None)

-- The next level's file was read from these bytes.
abbrev pub IsReadIn : Option CandidateView → List ℕ → Type 0
IsReadIn None bytes = ⊥
IsReadIn (Some c) bytes = IsReadFrom c bytes

-- What comes of a look at a part of the file that was read: 59 if none was, and 93 if there is no such part.
pub record LooksIn (old : Option CandidateView) (part : ℕ) (new : Option CandidateView) (answer : ℕ) : Type 0 where
  pub none : old ≡ None → (answer ≡ 59) × (new ≡ None)
  pub high : (c : CandidateView) → old ≡ Some c → 1600 < part → (answer ≡ 93) × (new ≡ old)
  pub looked : (c : CandidateView) → old ≡ Some c → part ≤ 1600 → (answer ≡ 0) × IsSomeAnd new (LooksAtPart c part)

-- Two files that were read are one, over the same levels, if they end in one digest.
abbrev pub AreOne : List Image → Option CandidateView → List Image → Option CandidateView → Type 0
AreOne levels None others read = Unit {0}
AreOne levels (Some a) others None = Unit {0}
AreOne levels (Some a) others (Some b) = a.file.loaded.digest ≡ b.file.loaded.digest → (a.file ≡ b.file) × (levels ≡ others)

-- What comes of joining what others looked at: 59 if not both have read a file that ends in one digest.
pub record JoinsIn (old other new : Option CandidateView) (answer : ℕ) : Type 0 where
  pub joined : answer ≡ 0 → (a : CandidateView) × (b : CandidateView) × (c : CandidateView) × (old ≡ Some a) × (other ≡ Some b) × (new ≡ Some c) × Joins a b c
  pub both : (a b : CandidateView) → old ≡ Some a → other ≡ Some b → a.file.loaded.digest ≡ b.file.loaded.digest → answer ≡ 0
  pub none : answer ≢ 0 → (answer ≡ 59) × (new ≡ old)
