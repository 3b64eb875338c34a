-- A core as it is made.
use Rattle.std.proofs.Common.{◌≡◌, ℕ, ◌+◌, ◌<◌, ◌≤◌, max, List, [], length, All, get_or, replicate, refl, sym, ap, subst, ◌∙◌, arith}
use Rattle.std.proofs.lemmas.List.{get_or-replicate, length-replicate}
use Rattle.std.proofs.lemmas.List.Elements.{All-nil, All-replicate}
use Rattle.awari_table.specs.declared.TheConstants.{HIGHEST_LEVEL}
use Rattle.awari_table.specs.Images.{table_of}
use Rattle.awari_table.specs.Shelves.{IsShelf}
use Rattle.awari_heard.specs.Level.{no_part}
use Rattle.awari_owner.specs.Outboxes.{AreBatches, IsBatch}
use Rattle.awari_owner.specs.Sound.{IsScannedOwner, IsCurrentNote}
use Rattle.awari_owner.proofs.Sounding.{sound_same}
use Rattle.awari_block.specs.declared.notes.Note.{Note}
use Rattle.awari_core.specs.Core.{Core, IsAllTaken, IsLinked, IsSilent, Ring, Sender, Sound, coming, no_ring, no_sender, owner_part}
use Rattle.awari_core.proofs.Sounding.{scanned_sound}
use Rattle.awari_core.proofs.Telling.{nothing_comes}

abbrev pub new_sender : ℕ → ℕ → ℕ → Sender
new_sender owners owner room = record { outboxes = record { owner = owner; queues = replicate owners [] }; rings = replicate owners (record { batches = []; room = room }) }

pub new_silent : (owners owner room : ℕ) (s : Sender) → s ≡ new_sender owners owner room → IsSilent s
new_silent owners owner room s is = subst IsSilent (sym is) (record {
  outboxes = All-replicate (λ (q : List (List Note)). q ≡ []) owners [] refl;
  rings = All-replicate (λ (l : Ring). l.batches ≡ []) owners (record { batches = []; room = room }) refl;
})

pub new_linked : (owners owner room : ℕ) (s : Sender) → s ≡ new_sender owners owner room → IsLinked owners room owner s
new_linked owners owner room s is = subst (IsLinked owners room owner) (sym is) (record {
  owner = refl;
  queues = length-replicate owners [];
  rings = length-replicate owners (record { batches = []; room = room });
  rooms = λ j low. ap (λ (l : Ring). l.room) (get_or-replicate owners j (record { batches = []; room = room }) no_ring low);
  batches = λ j low. subst (λ (l : Ring). AreBatches l.batches) (sym (get_or-replicate owners j (record { batches = []; room = room }) no_ring low)) (All-nil IsBatch);
})

-- scanned parts with nothing on its way are sound
pub sound_new : (core : Core) → IsShelf core.shelf → length core.shelf ≤ HIGHEST_LEVEL → 0 < length core.parts → length core.parts ≤ 16 → length core.senders ≡ length core.parts
    → ((i : ℕ) → i < length core.parts → IsLinked (length core.parts) core.room i (get_or core.senders i no_sender)) → core.gain ≡ length core.shelf + 1 → IsAllTaken core
    → ((i : ℕ) → i < length core.parts → IsScannedOwner (table_of core.shelf).value (length core.shelf) (length core.parts) i (get_or core.parts i no_part)) → Sound core
sound_new core shelf low some few senders linked gain taken scanned = record {
  shelf = shelf;
  low = low;
  some = some;
  few = few;
  senders = senders;
  linked = linked;
  gain = (scanned 0 some).scan.gain ∙ top (length core.shelf) ∙ ap (max 1) (sym gain);
  taken = λ _ _. [];
  sound =
      let sound = scanned_sound (table_of core.shelf).value (length core.shelf) (length core.parts) (owner_part core) some scanned in
      let none = λ (i : ℕ) (j : ℕ) (low : i < length core.parts). nothing_comes core taken i j (omega (arith, low, senders)) in
      record {
        shares = sound.shares;
        step = sound.step;
        sound = λ i low. sound_same (table_of core.shelf).value i (length core.parts) (owner_part core i) (λ _. []) (λ _. []) (λ _. []) (coming core i) (λ _. []) (coming core i)
            (λ j o. refl) (λ j o. none i j low) (λ j o h. subst (All (IsCurrentNote (owner_part core i))) (sym (none i j low)) h) (sound.sound i low);
      };
}
  where
    top : (n : ℕ) → n + 1 ≡ max 1 (n + 1)
    top n = omega arith
