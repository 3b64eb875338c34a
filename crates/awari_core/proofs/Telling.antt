-- Where nothing waits, no note is on its way.
use Rattle.std.proofs.Common.{◌≡◌, inl, inr, ℕ, ◌<◌, List, [], ◌++◌, length, get_or, All, refl, sym, ap, subst, ◌∙◌}
use Rattle.std.proofs.lemmas.List.{get_or_past}
use Rattle.std.proofs.lemmas.Bool.{cases_lt}
use Rattle.awari_owner.specs.Outboxes.{queue_to, notes_of}
use Rattle.awari_block.specs.declared.notes.Note.{Note}
use Rattle.awari_core.specs.Core.{Core, Ring, Sender, IsAllTaken, IsSilent, coming, coming_to, no_ring, no_sender, sender_at}

all_or : {X : Type 0} (P : X → Type 0) (xs : List X) (i : ℕ) (d : X) → P d → All P xs → P (get_or xs i d)
all_or P xs i d none all = elim (cases_lt i (length xs)) [
  | inl low ↦ all i d low
  | inr high ↦ subst P (sym (get_or_past xs i d high)) none
]

pub silent_to : (s : Sender) (j : ℕ) → IsSilent s → coming_to s j ≡ []
silent_to s j silent =
    ap (λ l. notes_of l ++ notes_of (queue_to s.outboxes j)) (all_or (λ (l : Ring). l.batches ≡ []) s.rings j no_ring refl silent.rings)
    ∙ ap notes_of (all_or (λ (q : List (List Note)). q ≡ []) s.outboxes.queues j [] refl silent.outboxes)

pub nothing_comes : (core : Core) → IsAllTaken core → (i j : ℕ) → i < length core.senders → coming core i j ≡ []
nothing_comes core all i j low = silent_to (sender_at core i) j (all i no_sender low)
