-- What is known of the one part of a level while it is built alone. Private functions alone go by this.
use Rattle.std.specs.Prelude.{◌≡◌, ℕ, ℤ, List, length}
use Rattle.awari_block.specs.Part.{Part, IsTallied}
use Rattle.awari_block.specs.declared.notes.Note.{Note}
use Rattle.awari_heard.specs.Heard.{HearsOwn}
use Rattle.awari_heard.specs.Level.{IsWhole}
use Rattle.awari_owner.specs.Outboxes.{Outboxes}

-- the part has all boards of its level, and the outboxes are those of the one owner
pub record IsAlone (part : Part) (outboxes : Outboxes) : Type 0 where
  pub whole : IsWhole part
  pub first : outboxes.owner ≡ 0
  pub one : length outboxes.queues ≡ 1

-- the cells tell what some notes say, which are those of the settled boards that were spread
pub record IsSoundPart (value : List ℕ → ℤ) (part : Part) : Type 0 where
  pub notes : List Note
  pub tallied : IsTallied value part notes
  pub own : HearsOwn part notes

-- Between these two the level and the open gain are the same, and a part that was sound is so.
pub record StaysSound (old new : Part) : Type 0 where
  pub level : new.level ≡ old.level
  pub gain : new.gain ≡ old.gain
  pub sound : (value : List ℕ → ℤ) → IsSoundPart value old → IsSoundPart value new
