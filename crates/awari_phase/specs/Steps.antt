-- What a worker does at one ring. Private functions alone go by this.
use Rattle.std.specs.Prelude.{◌≡◌, ◌≢◌, ℕ}
use Rattle.awari_lines.specs.Rings.{IsOther, SameBut, free_to, received_from, sent_to, waiting_from}
use Rattle.awari_owner.specs.Outboxes.{queue_to}
use Rattle.awari_phase.specs.Owners.{HasSent, HasTaken}
use Rattle.awari_phase.specs.declared.owners.Owner.{Owner}

-- at the ring of this owner, if it is another, a batch was taken or none waits, and nothing was done at the others
pub record TakesAt (a b : Owner) (j : ℕ) : Type 0 where
  pub took : IsOther a.ends j → HasTaken a b j
  pub others : SameBut a.ends b.ends j

-- nothing was taken, and as much is known to wait
abbrev pub TakesNothing : Owner → Owner → Type 0
TakesNothing a b =
    (j : ℕ) → IsOther a.ends j → (received_from b.ends j ≡ received_from a.ends j) × (waiting_from b.ends j ≡ waiting_from a.ends j)

-- at the ring to this owner, if it is another, a batch was sent or none can be, and nothing else was done
pub record SendsAt (a b : Owner) (j : ℕ) : Type 0 where
  pub sent : IsOther a.ends j → HasSent a b j
  pub part : b.part ≡ a.part
  pub received : TakesNothing a b
  pub pairs : (k : ℕ) → IsOther a.ends k → k ≢ j → (sent_to b.ends k ≡ sent_to a.ends k) × (free_to b.ends k ≡ free_to a.ends k)
  pub queues : (k : ℕ) → k ≢ j → queue_to b.outboxes k ≡ queue_to a.outboxes k
