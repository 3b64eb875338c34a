-- The owners of a level before any gain is open.
use Rattle.std.proofs.Common.{◌≡◌, ℕ, ◌+◌, ◌<◌, ◌≤◌, Option, Some, None, List, [], ◌∷◌, ◌++◌, length, map, All, ℤ, refl, sym, ap, subst, ◌∙◌, arith, get_or}
use Rattle.std.proofs.lemmas.List.{length-map, map-append}
use Rattle.std.proofs.lemmas.List.Elements.{All-push}
use Rattle.awari_owner.specs.Outboxes.{notes_of, queue_to}
use Rattle.awari_owner.specs.Sound.{IsScannedOwner}
use Rattle.awari_owner.proofs.Sounding.{sound_scanned}
use Rattle.awari_lines.specs.Rings.{AllUnused, IsGrid, IsOther, IsUnused, UnusedOn, owners_of, received_from, received_on, sent_on, sent_to}
use Rattle.awari_lines.specs.Seats.{seat_of}
use Rattle.awari_lines.specs.declared.ends.Ends.{Ends}
use Rattle.awari_lines.specs.declared.ends.RingPair.{RingPair}
use Rattle.awari_phase.specs.declared.owners.Owner.{Owner}
use Rattle.awari_phase.specs.Owners.{AreAt, AreFinished, IsScannedWith, IsSound, Notes, all_ends, ends_of, given_to, items_of, notes_boxed, notes_given, notes_taken}
use Rattle.awari_phase.proofs.Grown.{ends_at}

-- these are the owners of these ends, as they are scanned
pub record ScannedTo (value : List ℕ → ℤ) (n owners : ℕ) (es : List (Ends Notes)) (os : List Owner) : Type 0 where
  pub ends : all_ends os ≡ es
  pub each : All (λ (o : Owner). IsScannedWith value n owners o.ends o) os

module _ (value : List ℕ → ℤ) (n owners : ℕ) where
  pub scanned_more : (es : List (Ends Notes)) (os : List Owner) (e : Ends Notes) (o : Owner) → ScannedTo value n owners es os → IsScannedWith value n owners e o → ScannedTo value n owners (es ++ e ∷ []) (os ++ o ∷ [])
  scanned_more es os e o s more = record {
    ends = map-append ends_of os (o ∷ []) ∙ (ap (λ l. l ++ o.ends ∷ []) s.ends ∙ ap (λ (u : Ends Notes). es ++ u ∷ []) more.ends);
    each = All-push (λ (o : Owner). IsScannedWith value n owners o.ends o) os o s.each (subst (λ (u : Ends Notes). IsScannedWith value n owners u o) (sym more.ends) more);
  }

-- nothing was sent or received on a ring that is not used
none_received : (l : Option (RingPair Notes)) → UnusedOn l → received_on l ≡ []
none_received None u = refl
none_received (Some l) u = u.1

none_sent : (l : Option (RingPair Notes)) → UnusedOn l → sent_on l ≡ []
none_sent None u = refl
none_sent (Some l) u = u.0

-- an owner that was scanned, on rings that are not used, is sound
scanned : (value : List ℕ → ℤ) (n owners : ℕ) (o : Owner) → IsUnused o.ends → owners_of o.ends ≡ owners → IsScannedWith value n owners o.ends o → IsSound value o.ends o.part o.outboxes
scanned value n owners o unused count s = sound_scanned value n o.ends.owner (owners_of o.ends) o.ends.owner o.part (notes_taken o.ends) (notes_given o.ends o.outboxes) (notes_boxed o.outboxes)
    (subst (λ k. IsScannedOwner value n k o.ends.owner o.part) (sym count) s.part)
    (λ j q. ap (λ (l : List Notes). notes_of (map items_of l)) (none_received _ (unused (seat_of o.ends.owner j)))) (λ j q. ap notes_of (given j q)) (λ j q. ap notes_of (none j q))
  where
    none : (j : ℕ) → IsOther o.ends j → queue_to o.outboxes j ≡ []
    none j q = s.sent j [] (let many = o.queues in let low = q.1 in omega (arith, many, low))

    given : (j : ℕ) → IsOther o.ends j → given_to o.ends o.outboxes j ≡ []
    given j q = ap (λ (l : List Notes). map items_of l ++ queue_to o.outboxes j) (none_sent _ (unused (seat_of o.ends.owner j))) ∙ none j q

finished_scanned : (value : List ℕ → ℤ) (n owners : ℕ) (es : List (Ends Notes)) (os : List Owner) → 1 ≤ owners → length es ≡ owners → IsGrid es → AllUnused es → ScannedTo value n owners es os → AreFinished value n os
finished_scanned value n owners es os first count g unused s =
    let many : length os ≡ owners = sym (length-map os ends_of) ∙ (ap length s.ends ∙ count) in
    let ends : (i : ℕ) (d : Owner) → i < length os → get_or es i d.ends ≡ (get_or os i d).ends = λ i d h. ap (λ l. get_or l i d.ends) (sym s.ends) ∙ ends_at os i d.ends d h in
    let low : (i : ℕ) → i < length os → i < length es = λ i h. omega (arith, h, many, count) in
    let one : 0 < length os = omega (arith, first, many) in
    record {
      some = one;
      grid = subst (λ (l : List (Ends Notes)). IsGrid l) (sym s.ends) g;
      sent = λ i d h. (s.each i d h).sent;
      received = λ i j d. subst (λ (l : List (Ends Notes)). i < length l → j < length l → (i ≡ j → ⊥) → received_from (get_or l i d) j ≡ sent_to (get_or l j d) i) (sym s.ends)
          (λ h k n. none_received _ (unused i d h (seat_of (get_or es i d).owner j)) ∙ sym (none_sent _ (unused j d k (seat_of (get_or es j d).owner i))));
      sound = λ i d h. scanned value n owners (get_or os i d) (subst (λ (e : Ends Notes). IsUnused e) (ends i d h) (unused i d.ends (low i h)))
          (ap owners_of (sym (ends i d h)) ∙ (g.owners i d.ends (low i h) ∙ count)) (s.each i d h);
      level = λ i d h. (s.each i d h).part.scan.level;
      gain = λ i d h. (s.each i d h).part.scan.gain ∙ sym (s.each 0 d one).part.scan.gain;
      wave = λ i d h. (s.each i d h).part.scan.wave ∙ sym (s.each 0 d one).part.scan.wave;
    }

pub scanned_at : (value : List ℕ → ℤ) (n owners : ℕ) (es : List (Ends Notes)) (os : List Owner) → 1 ≤ owners → length es ≡ owners → IsGrid es → AllUnused es → ScannedTo value n owners es os → AreAt value n (n + 1) os
scanned_at value n owners es os first count g unused s = record {
  finished = finished_scanned value n owners es os first count g unused s;
  idle = λ i d h. (s.each i d h).part.scan.fresh;
  gain = λ i d h. (s.each i d h).part.scan.gain;
}
