-- The next gain opened in all parts, with nothing on its way.
use Rattle.std.proofs.Common.{◌≡◌, ℕ, ◌<◌, List, [], length, All, ℤ, sym, subst, ◌∙◌, arith, get_or}
use Rattle.awari_owner.specs.Outboxes.{Outboxes}
use Rattle.awari_owner.proofs.Sounding.{gain_opened, sound_opened}
use Rattle.awari_block.specs.Each.{EachTo}
use Rattle.awari_lines.specs.Rings.{IsGrid, owners_of, received_from, sent_to}
use Rattle.awari_lines.specs.declared.ends.Ends.{Ends}
use Rattle.awari_phase.specs.declared.owners.Owner.{Owner}
use Rattle.awari_phase.specs.Owners.{AreFinished, Batches, IsSound, Notes, OpensNext, all_ends, notes_boxed, notes_given, notes_taken}
use Rattle.awari_phase.proofs.Gaining.{none_boxed}
use Rattle.awari_phase.proofs.Each.{same_ends}

owner_next : (value : List ℕ → ℤ) (a b : Owner) → OpensNext a b → All (λ (q : Batches). q ≡ []) a.outboxes.queues → IsSound value a.ends a.part a.outboxes → IsSound value b.ends b.part b.outboxes
owner_next value a b opens none s =
    subst (λ (e : Ends Notes). IsSound value e b.part b.outboxes) (sym opens.ends) (subst (λ (o : Outboxes). IsSound value a.ends b.part o) (sym opens.outboxes)
    (sound_opened value a.ends.owner (owners_of a.ends) a.part b.part (notes_taken a.ends) (notes_given a.ends a.outboxes) (notes_boxed a.outboxes)
    (gain_opened b.part.gain a.part b.part opens.opens) (none_boxed a none) s))

pub finished_next : (value : List ℕ → ℤ) (n : ℕ) (os ps : List Owner) → EachTo OpensNext os ps → AreFinished value n os → AreFinished value n ps
finished_next value n os ps all f =
    let many = all.many in
    let opens = all.each in
    let ends : all_ends ps ≡ all_ends os = same_ends os ps many (λ i d h. (opens i d h).ends) in
    let low : (i : ℕ) → i < length ps → i < length os = λ i h. omega (arith, h, many) in
    let first : 0 < length os = (let s = f.some in omega (arith, s)) in
    let same : (i : ℕ) (d : Owner) (h : i < length os) → (get_or ps i d).part.gain ≡ (get_or ps 0 d).part.gain = λ i d h.
    (let now = (opens i d h).gain in let then = (opens 0 d first).gain in let was = f.gain i d h in omega (arith, now, then, was)) in
    record {
      some = (let s = f.some in omega (arith, s, many));
      grid = subst (λ (l : List (Ends Notes)). IsGrid l) (sym ends) f.grid;
      sent = λ i d h. subst (λ (o : Outboxes). All (λ (q : Batches). q ≡ []) o.queues) (sym (opens i d (low i h)).outboxes) (f.sent i d (low i h));
      received = λ i j d.
          subst (λ (l : List (Ends Notes)). i < length l → j < length l → (i ≡ j → ⊥) → received_from (get_or l i d) j ≡ sent_to (get_or l j d) i) (sym ends) (f.received i j d);
      sound = λ i d h. owner_next value (get_or os i d) (get_or ps i d) (opens i d (low i h)) (f.sent i d (low i h)) (f.sound i d (low i h));
      level = λ i d h. (opens i d (low i h)).opens.settles.same.level ∙ f.level i d (low i h);
      gain = λ i d h. same i d (low i h);
      wave = λ i d h. (opens i d (low i h)).opens.settles.same.wave ∙ sym (opens 0 d first).opens.settles.same.wave;
    }
