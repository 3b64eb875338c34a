-- Owners that are each sound are so together, once nothing is on its way.
use Rattle.std.proofs.Common.{◌≡◌, ℕ, zero, suc, ◌+◌, ◌<◌, ◌≤◌, List, [], ◌∷◌, ◌++◌, length, map, All, get_or, ℤ, refl, sym, ap, subst, subst₂, ◌∙◌, arith, append-nil}
use Rattle.std.proofs.lemmas.List.{get_or_default, length-map}
use Rattle.std.proofs.lemmas.List.Elements.{All-nil}
use Rattle.awari_rank.specs.Rank.{size_of}
use Rattle.awari_block.specs.Part.{Part, IsClosed}
use Rattle.awari_block.specs.Shares.{first_rank}
use Rattle.awari_owner.specs.Owners.{AreSound, IsShare}
use Rattle.awari_heard.specs.Level.{no_part, part_at}
use Rattle.awari_owner.specs.Sound.{IsCurrentNote, OwnerSound}
use Rattle.awari_owner.proofs.Sounding.{sound_same}
use Rattle.awari_block.specs.declared.notes.Note.{Note}
use Rattle.awari_lines.specs.Rings.{IsGrid, owners_of, sent_to, received_from}
use Rattle.awari_lines.specs.declared.ends.Ends.{Ends}
use Rattle.awari_owner.specs.Outboxes.{notes_of, queue_to}
use Rattle.awari_phase.specs.Owners.{Batches, Notes, items_of, notes_boxed, notes_given, notes_taken, AreFinished, AreIdle, all_ends, ends_of, parts_of, taken_notes}
use Rattle.awari_phase.specs.declared.owners.Owner.{Owner}

pub part_there : (os : List Owner) (i : ℕ) (d : Owner) → i < length os → (get_or os i d).part ≡ part_at (parts_of os) i
part_there [] i d low = absurd (omega (arith, low))
part_there (o ∷ os) zero d low = refl
part_there (o ∷ os) (suc i) d low = part_there os i d (omega (arith, low))

pub ends_there : (os : List Owner) (i : ℕ) (d : Owner) → get_or (all_ends os) i d.ends ≡ (get_or os i d).ends
ends_there [] i d = refl
ends_there (o ∷ os) zero d = refl
ends_there (o ∷ os) (suc i) d = ends_there os i d

-- Owners that stand on a grid, over the batches that each took and the notes that come to it: what an owner gave to another is
-- what that one took and what comes.
pub record AreMet (value : List ℕ → ℤ) (n : ℕ) (os : List Owner) (d : Owner) (coming taken : ℕ → ℕ → List Note) : Type 0 where
  pub some : 1 ≤ length os
  pub grid : IsGrid (all_ends os)
  pub level : (i : ℕ) → i < length os → (get_or os i d).part.level ≡ n
  pub gain : (i : ℕ) → i < length os → (get_or os i d).part.gain ≡ (get_or os 0 d).part.gain
  pub wave : (i : ℕ) → i < length os → (get_or os i d).part.wave ≡ (get_or os 0 d).part.wave
  pub sound : (i : ℕ) → i < length os
      → OwnerSound value (get_or os i d).ends.owner (owners_of (get_or os i d).ends) (get_or os i d).part (taken i) (notes_given (get_or os i d).ends (get_or os i d).outboxes) (notes_boxed (get_or os i d).outboxes)
  pub arrived : (i j : ℕ) → i < length os → j < length os → (i ≡ j → ⊥) → notes_given (get_or os i d).ends (get_or os i d).outboxes j ≡ taken j i ++ coming i j
  pub timely : (i j : ℕ) → i < length os → j < length os → (i ≡ j → ⊥) → All (IsCurrentNote (get_or os i d).part) (coming i j)

-- the ends of each have its number, and are of as many owners
pub number_at : (os : List Owner) (d : Owner) → IsGrid (all_ends os) → (i : ℕ) → i < length os → (get_or os i d).ends.owner ≡ i
number_at os d grid i low = ap (λ (e : Ends Notes). e.owner) (sym (ends_there os i d)) ∙ grid.owner i d.ends (subst (λ k. i < k) (sym (length-map os ends_of)) low)

pub many_at : (os : List Owner) (d : Owner) → IsGrid (all_ends os) → (i : ℕ) → i < length os → owners_of (get_or os i d).ends ≡ length os
many_at os d grid i low = ap (λ (e : Ends Notes). owners_of e) (sym (ends_there os i d)) ∙ grid.owners i d.ends (subst (λ k. i < k) (sym (length-map os ends_of)) low) ∙ length-map os ends_of

module _ (value : List ℕ → ℤ) (n : ℕ) (os : List Owner) (d : Owner) (coming taken : ℕ → ℕ → List Note) (met : AreMet value n os d coming taken) where
  abbrev owner : ℕ → Owner
  owner i = get_or os i d

  abbrev part : ℕ → Part
  part i = (owner i).part

  number : (i : ℕ) → i < length os → (owner i).ends.owner ≡ i
  number = number_at os d met.grid

  many : (i : ℕ) → i < length os → owners_of (owner i).ends ≡ length os
  many = many_at os d met.grid

  share : (i : ℕ) → i < length os → IsShare n (length os) i (part i)
  share i low =
      let of = (owner i).part_of in
      let own : (owner i).outboxes.owner ≡ i = (owner i).numbered ∙ number i low in
      let queues : length (owner i).outboxes.queues ≡ length os = (owner i).queues ∙ many i low in
      record {
        level = met.level i low;
        start = of.start ∙ moved own queues (λ b k a. first_rank b k a);
        end = of.end ∙ moved own queues (λ b k a. first_rank b k (a + 1));
      }
    where
      moved : (owner i).outboxes.owner ≡ i → length (owner i).outboxes.queues ≡ length os → (f : ℕ → ℕ → ℕ → ℕ)
          → f (size_of (part i).level) (length (owner i).outboxes.queues) (owner i).outboxes.owner ≡ f (size_of n) (length os) i
      moved own queues f =
          ap (λ l. f (size_of l) (length (owner i).outboxes.queues) (owner i).outboxes.owner) (met.level i low)
          ∙ ap (λ k. f (size_of n) k (owner i).outboxes.owner) queues ∙ ap (f (size_of n) (length os)) own

  sound : (i : ℕ) → i < length os → OwnerSound value i (length os) (part i) (taken i) (λ j. taken j i ++ coming i j) (coming i)
  sound i low = sound_same value i (length os) (part i) (taken i) (taken i) (notes_given (owner i).ends (owner i).outboxes) (λ j. taken j i ++ coming i j) (notes_boxed (owner i).outboxes) (coming i)
      (λ j o. refl) (λ j o. sym (met.arrived i j low o.1 (λ e. o.0 (sym e)))) (λ j o h. met.timely i j low o.1 (λ e. o.0 (sym e)))
      (subst₂ (λ (a b : ℕ). OwnerSound value a b (part i) (taken i) (notes_given (owner i).ends (owner i).outboxes) (notes_boxed (owner i).outboxes)) (number i low) (many i low) (met.sound i low))

  -- the parts, as they stand in their list
  there : (i : ℕ) → i < length os → part i ≡ part_at (parts_of os) i
  there i low = part_there os i d low

  first : part 0 ≡ part_at (parts_of os) 0
  first = there 0 met.some

  pub sound_together : AreSound value n (length os) (part_at (parts_of os)) coming (λ i j. taken j i)
  sound_together = record {
    shares = λ i low. subst (IsShare n (length os) i) (there i low) (share i low);
    step = record {
      gain = λ i low. ap (λ (p : Part). p.gain) (sym (there i low)) ∙ met.gain i low ∙ ap (λ (p : Part). p.gain) first;
      wave = λ i low. ap (λ (p : Part). p.wave) (sym (there i low)) ∙ met.wave i low ∙ ap (λ (p : Part). p.wave) first;
    };
    sound = λ i low. subst (λ (p : Part). OwnerSound value i (length os) p (taken i) (λ j. taken j i ++ coming i j) (coming i)) (there i low) (sound i low);
  }

-- owners without anything on its way are met so
module _ (value : List ℕ → ℤ) (n : ℕ) (os : List Owner) (finished : AreFinished value n os) (d : Owner) where
  -- what an owner gave to another the other took
  arrived : (i j : ℕ) → i < length os → j < length os → (i ≡ j → ⊥) → notes_given (get_or os i d).ends (get_or os i d).outboxes j ≡ taken_notes os d i j ++ []
  arrived i j low low' apart =
      let queues : length (get_or os i d).outboxes.queues ≡ length os = (get_or os i d).queues ∙ many_at os d finished.grid i low in
      let none : queue_to (get_or os i d).outboxes j ≡ [] = finished.sent i d low j [] (omega (arith, queues, low')) in
      let in_ends : (k : ℕ) → k < length os → k < length (all_ends os) = λ k h. subst (λ x. k < x) (sym (length-map os ends_of)) h in
      let came : received_from (get_or os j d).ends i ≡ sent_to (get_or os i d).ends j =
      subst₂ (λ (a b : Ends Notes). received_from a i ≡ sent_to b j) (ends_there os j d) (ends_there os i d) (finished.received j i d.ends (in_ends j low') (in_ends i low) (λ e. apart (sym e))) in
      ap (λ (q : Batches). notes_of (map items_of (sent_to (get_or os i d).ends j) ++ q)) none ∙ ap notes_of (append-nil (map items_of (sent_to (get_or os i d).ends j)))
      ∙ ap (λ l. notes_of (map items_of l)) (sym came) ∙ sym (append-nil (taken_notes os d i j))

  pub sound_finished : AreSound value n (length os) (part_at (parts_of os)) (λ _ _. []) (taken_notes os d)
  sound_finished = sound_together value n os d (λ _ _. []) (λ j. notes_taken (get_or os j d).ends) (record {
    some = finished.some;
    grid = finished.grid;
    level = λ i low. finished.level i d low;
    gain = λ i low. finished.gain i d low;
    wave = λ i low. finished.wave i d low;
    sound = λ i low. finished.sound i d low;
    arrived = arrived;
    timely = λ i j low low' apart. All-nil (IsCurrentNote (get_or os i d).part);
  })

-- and some owner is there
pub first_of : (os : List Owner) → 1 ≤ length os → Owner
first_of [] some = absurd (omega (arith, some))
first_of (o ∷ os) some = o

pub as_many : (os : List Owner) → length (parts_of os) ≡ length os
as_many os = length-map os (λ (o : Owner). o.part)

-- the parts of owners without a fresh board are closed at gain 1
pub all_closed : (os : List Owner) → AreIdle os → ((i : ℕ) (d : Owner) → i < length os → (get_or os i d).part.gain ≡ 1) → All IsClosed (parts_of os)
all_closed os idle gain i p low =
    let inside : i < length os = subst (λ k. i < k) (as_many os) low in
    let d = first_of os (omega (arith, inside)) in
    let there : get_or (parts_of os) i p ≡ (get_or os i d).part = get_or_default (parts_of os) i p no_part low ∙ sym (part_there os i d inside) in
    subst IsClosed (sym there) (gain i d inside, idle i d inside)
