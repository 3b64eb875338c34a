-- Owners that are sound together, and whose rings were looked at, are sound with what each took and what is on its way.
use Rattle.std.proofs.Common.{◌≡◌, ℕ, ◌<◌, List, [], ◌++◌, length, map, ℤ, sym, ap, subst, subst₂, ◌∙◌, inl, inr, get_or, append_assoc, append-nil}
use Rattle.std.proofs.lemmas.List.{length-map, map-append}
use Rattle.std.proofs.lemmas.List.Elements.{All-nil}
use Rattle.awari_block.specs.Notes.{Has}
use Rattle.awari_block.specs.declared.notes.Note.{Note}
use Rattle.awari_owner.specs.Owners.{AreSound}
use Rattle.awari_heard.specs.Level.{part_at}
use Rattle.awari_owner.specs.Sound.{IsCurrentNote}
use Rattle.awari_owner.specs.Outboxes.{queue_to, notes_of}
use Rattle.awari_lines.specs.Rings.{received_from, sent_to, waiting_from}
use Rattle.awari_lines.specs.declared.ends.Ends.{Ends}
use Rattle.awari_block.proofs.NoteLists.{Has-append_cases, all_has, has_all}
use Rattle.awari_owner.proofs.Lists.{notes_of-append}
use Rattle.awari_phase.specs.declared.owners.Owner.{Owner}
use Rattle.awari_phase.specs.Owners.{AreLooked, AreTogether, IsOpenBatch, Notes, all_ends, coming_notes, ends_of, items_of, notes_boxed, notes_given, notes_taken, parts_of, taken_from, taken_notes}
use Rattle.awari_phase.proofs.Refusing.{open_since}
use Rattle.awari_phase.proofs.Together.{ends_there, many_at, number_at, sound_together}

module _ (value : List ℕ → ℤ) (n : ℕ) (os : List Owner) (d : Owner) (together : AreTogether value n os) (looked : AreLooked os) where
  abbrev owner : ℕ → Owner
  owner i = get_or os i d

  -- what an owner sent to another that one took, or it waits on the ring
  on_ring : (i j : ℕ) → i < length os → j < length os → (i ≡ j → ⊥) → received_from (owner j).ends i ++ waiting_from (owner j).ends i ≡ sent_to (owner i).ends j
  on_ring i j low low' apart =
      let in_ends : (k : ℕ) → k < length os → k < length (all_ends os) = λ k h. subst (λ x. k < x) (sym (length-map os ends_of)) h in
      subst₂ (λ (a b : Ends Notes). received_from a i ++ waiting_from a i ≡ sent_to b j) (ends_there os j d) (ends_there os i d) (looked j i d.ends (in_ends j low') (in_ends i low) (λ e. apart (sym e)))

  arrived : (i j : ℕ) → i < length os → j < length os → (i ≡ j → ⊥) → notes_given (owner i).ends (owner i).outboxes j ≡ taken_notes os d i j ++ coming_notes os d i j
  arrived i j low low' apart =
      let waits = waiting_from (owner j).ends i in
      let boxed = notes_of (queue_to (owner i).outboxes j) in
      notes_of-append (map items_of (sent_to (owner i).ends j)) (queue_to (owner i).outboxes j)
      ∙ ap (λ l. notes_of (map items_of l) ++ boxed) (sym (on_ring i j low low' apart))
      ∙ ap (λ l. l ++ boxed) (ap notes_of (map-append items_of (received_from (owner j).ends i) waits) ∙ notes_of-append (taken_from (owner j).ends i) (map items_of waits))
      ∙ append_assoc (taken_notes os d i j) (notes_of (map items_of waits)) boxed

  timely : (i j : ℕ) → i < length os → j < length os → (i ≡ j → ⊥) → (m : Note) → Has (coming_notes os d i j) m → IsCurrentNote (owner i).part m
  timely i j low low' apart m has =
      let received = received_from (owner j).ends i in
      let waits = waiting_from (owner j).ends i in
      let sent = sent_to (owner i).ends j in
      let number = number_at os d together.grid i low in
      let many = many_at os d together.grid i low in
      elim (Has-append_cases (notes_of (map items_of waits)) (notes_boxed (owner i).outboxes j) m has) [
        | inl waiting ↦ open_since (owner i).part received sent [] waits [] (together.waits j i d low' low (λ e. apart (sym e)))
            (ap (λ l. l ++ waits) (append-nil received) ∙ on_ring i j low low' apart ∙ sym (append-nil sent)) (All-nil (IsOpenBatch (owner i).part)) m waiting
        | inr boxed ↦ has_all (IsCurrentNote (owner i).part) (notes_boxed (owner i).outboxes j)
            ((together.sound i d low).opened j ((λ e. apart (sym (e ∙ number))), subst (λ k. j < k) (sym many) low')) m boxed
      ]

  pub sound_looked : AreSound value n (length os) (part_at (parts_of os)) (coming_notes os d) (taken_notes os d)
  sound_looked = sound_together value n os d (coming_notes os d) (λ j. notes_taken (owner j).ends) (record {
    some = together.some;
    grid = together.grid;
    level = λ i low. together.level i d low;
    gain = λ i low. together.gain i d low;
    wave = λ i low. together.wave i d low;
    sound = λ i low. together.sound i d low;
    arrived = arrived;
    timely = λ i j low low' apart. all_has (IsCurrentNote (owner i).part) (coming_notes os d i j) (timely i j low low' apart);
  })
