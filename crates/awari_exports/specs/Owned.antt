-- What a handle owns, and the levels that it holds.
use Rattle.std.specs.Prelude.{Bool, true, false, ℕ, Option, Some, None, List, [], replicate}
use base.Fml.{Fml, ftrue}
use mir.Syntax.{Ty}
use denote.RawPtr.{Ptr}
use Rattle.std.specs.Global.{Global}
use Rattle.std.specs.contracts.impls.GlobalAllocator.TheImpl.{ghosts}
use Rattle.std.specs.Box.Ownership.{box_owns}
use Rattle.awari_folder.specs.declared.loading.Stored.{Stored}
use Rattle.awari_folder.specs.Candidates.{CandidateView}
use Rattle.awari_table.specs.declared.images.Image.{Image}
use Rattle.awari_segments.specs.Slices.{SlicedView}
use Rattle.awari_exports.specs.Held.{HeldView}
use Rattle.awari_exports.specs.contracts.held.Held.{the_row}

-- the allocator, of which there is one
abbrev pub heap : Global
heap = record { memory = record { seal = tt } }

-- the right to give a block of it back
abbrev pub block : Ty → Ptr → Fml
block ty at = ghosts.dealloc_token heap ty at

-- While it is open, the levels at the pointer and the right to free its block.
abbrev pub owned : Bool → Ptr → HeldView → Fml
owned true at held = box_owns block the_row at held
owned false at held = ftrue

-- what a handle holds that is open
abbrev pub held_in : Bool → HeldView → Option HeldView
held_in true held = Some held
held_in false held = None

-- the same without the level that was begun
abbrev pub stored_in : Bool → HeldView → Option Stored
stored_in true held = Some held.stored
stored_in false held = None

-- its levels, none while it is closed
abbrev pub levels_in : Bool → HeldView → List Image
levels_in true held = held.stored.shelf
levels_in false held = []

-- the digest of its last file
abbrev pub digest_in : Bool → HeldView → List ℕ
digest_in true held = held.stored.digest
digest_in false held = replicate 32 0

-- the level that was begun
abbrev pub draft_in : Bool → HeldView → Option SlicedView
draft_in true held = held.draft
draft_in false held = None

-- the next level's file that was read, and what was looked at of it
abbrev pub candidate_in : Bool → HeldView → Option CandidateView
candidate_in true held = held.candidate
candidate_in false held = None
