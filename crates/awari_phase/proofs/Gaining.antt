-- What the rounds of a gain keep.
use Rattle.std.proofs.Common.{◌≡◌, ℕ, ◌<◌, max, List, [], length, map, All, ℤ, refl, sym, ap, subst, ◌∙◌, arith, get_or}
use Rattle.std.proofs.lemmas.List.{append-nil, length-map}
use Rattle.std.proofs.Math.ListN.{get_or-map}
use Rattle.awari_owner.specs.Outboxes.{Outboxes, notes_of}
use Rattle.awari_owner.specs.Sound as part
use Rattle.awari_owner.proofs.Sounding.{stake_same, sound_opened, stays_both, wave_opened}
use Rattle.awari_block.specs.Blocks.{KeepSettled}
use Rattle.awari_block.specs.Part.{Part}
use Rattle.awari_block.specs.Each.{EachTo}
use Rattle.awari_lines.specs.Rings.{IsGrid, IsOther, SamePairs, SameHistory, owners_of, sent_to, received_from}
use Rattle.awari_lines.specs.declared.ends.Ends.{Ends}
use Rattle.awari_phase.specs.declared.owners.Owner.{Owner}
use Rattle.awari_phase.specs.Owners.{Batches, IsSound, Notes, notes_boxed, notes_given, notes_taken, Kept, Grown, AllGrown, AreFinished, AreInWave, AreReceived, AreSent, JoinsWave, all_ends, ends_of, rest_of}
use Rattle.awari_lines.proofs.Grids.{same_pairs}
use Rattle.awari_phase.proofs.Keeping.{pairs_then, IsOther-on, prefix_then, same_sound}
use Rattle.awari_phase.proofs.Grown.{ends_at, grid_after}
use Rattle.awari_phase.proofs.Each.{same_ends}

pub grown_refl : (a : Owner) → Grown a a
grown_refl a = record {
  pairs = same_pairs a.ends;
  level = refl;
  gain = refl;
  start = refl;
  long = refl;
  stays = (stake_same a.part).stays;
  received = λ j o. ([], append-nil (received_from a.ends j));
  sent = λ j o. ([], append-nil (sent_to a.ends j));
  sound = λ value h. h;
}

pub grown_trans : (a b c : Owner) → Grown a b → Grown b c → Grown a c
grown_trans a b c s t = record {
  pairs = pairs_then a.ends b.ends c.ends s.pairs t.pairs;
  level = t.level ∙ s.level;
  gain = t.gain ∙ s.gain;
  start = t.start ∙ s.start;
  long = t.long ∙ s.long;
  stays = stays_both a.part b.part c.part s.start s.stays t.stays;
  received = λ j o. prefix_then (received_from a.ends j) (received_from b.ends j) (received_from c.ends j) (s.received j o) (t.received j (IsOther-on a.ends b.ends j s.pairs o));
  sent = λ j o. prefix_then (sent_to a.ends j) (sent_to b.ends j) (sent_to c.ends j) (s.sent j o) (t.sent j (IsOther-on a.ends b.ends j s.pairs o));
  sound = λ value h. t.sound value (s.sound value h);
}

pub grown_kept : (a b : Owner) → Kept a b → Grown a b
grown_kept a b k = record {
  pairs = k.pairs;
  level = k.block.level.level;
  gain = k.block.level.gain;
  start = k.block.level.start;
  long = k.block.long;
  stays = k.block.stays;
  received = k.received;
  sent = λ j o. ((k.sent j o).0, sym (k.sent j o).1);
  sound = k.sound;
}

-- a look at the rings
pub grown_looked : (a b : Owner) → SameHistory a.ends b.ends → rest_of b ≡ rest_of a → Grown a b
grown_looked a b h r =
    let part : b.part ≡ a.part = ap (λ (p : Part × Outboxes). p.0) r in
    let boxes : b.outboxes ≡ a.outboxes = ap (λ (p : Part × Outboxes). p.1) r in record {
      pairs = h.pairs;
      level = ap (λ (p : Part). p.level) part;
      gain = ap (λ (p : Part). p.gain) part;
      start = ap (λ (p : Part). p.start) part;
      long = ap (λ (p : Part). length p.cells) part;
      stays = subst (λ (p : Part). KeepSettled a.part.start a.part.cells p.cells) (sym part) (stake_same a.part).stays;
      received = λ j o. ([], append-nil (received_from a.ends j) ∙ sym (h.received j o.0));
      sent = λ j o. ([], append-nil (sent_to a.ends j) ∙ sym (h.sent j o.0));
      sound = λ value s.
          subst (λ (p : Part). IsSound value b.ends p b.outboxes) (sym part) (subst (λ (o : Outboxes). IsSound value b.ends a.part o) (sym boxes)
          (same_sound value a.ends b.ends a.part a.outboxes h.pairs (λ j o. h.sent j o.0) (λ j o. h.received j o.0) s));
    }

-- nothing is to be sent
pub none_boxed : (a : Owner) → All (λ (q : Batches). q ≡ []) a.outboxes.queues → (j : ℕ) → IsOther a.ends j → notes_boxed a.outboxes j ≡ []
none_boxed a none j o = ap notes_of (none j [] (let many = a.queues in let low = o.1 in omega (arith, many, low)))

-- a greater distance opened, with nothing to be sent
pub grown_wave : (a b : Owner) (d : ℕ) → b.ends ≡ a.ends → b.outboxes ≡ a.outboxes → part.OpensWave d a.part b.part → All (λ (q : Batches). q ≡ []) a.outboxes.queues → Grown a b
grown_wave a b d e o opens none = let p = opens.wave in record {
  pairs = subst (λ (x : Ends Notes). SamePairs a.ends x) (sym e) (same_pairs a.ends);
  level = ap (λ (x : Part). x.level) p;
  gain = ap (λ (x : Part). x.gain) p;
  start = ap (λ (x : Part). x.start) p;
  long = ap (λ (x : Part). length x.cells) p;
  stays = subst (λ (x : Part). KeepSettled a.part.start a.part.cells x.cells) (sym p) (stake_same a.part).stays;
  received = λ j q. ([], append-nil (received_from a.ends j) ∙ ap (λ (x : Ends Notes). received_from x j) (sym e));
  sent = λ j q. ([], append-nil (sent_to a.ends j) ∙ ap (λ (x : Ends Notes). sent_to x j) (sym e));
  sound = λ value s.
      subst (λ (x : Ends Notes). IsSound value x b.part b.outboxes) (sym e) (subst (λ (x : Outboxes). IsSound value a.ends b.part x) (sym o)
      (sound_opened value a.ends.owner (owners_of a.ends) a.part b.part (notes_taken a.ends) (notes_given a.ends a.outboxes) (notes_boxed a.outboxes)
      (wave_opened d a.part b.part opens) (none_boxed a none) s));
}

-- ---- of all owners

-- the same distances at each place
step_then : (os ps : List Owner) → length ps ≡ length os → ((i : ℕ) (d : Owner) → i < length os → (get_or ps i d).part.wave ≡ (get_or os i d).part.wave) → AreInWave os → AreInWave ps
step_then os ps many same step i d h =
    let low : i < length os = omega (arith, h, many) in
    same i d low ∙ (step i d low ∙ sym (same 0 d (omega (arith, low))))

pub all_grown_refl : (os : List Owner) → IsGrid (all_ends os) → AllGrown os os
all_grown_refl os g = record { many = refl; each = λ i d h. grown_refl (get_or os i d); grid = g; wave = λ step. step }

pub all_grown_trans : (os ps qs : List Owner) → AllGrown os ps → AllGrown ps qs → AllGrown os qs
all_grown_trans os ps qs s t = record {
  many = t.many ∙ s.many;
  each = λ i d h. (let many = s.many in grown_trans (get_or os i d) (get_or ps i d) (get_or qs i d) (s.each i d h) (t.each i d (omega (arith, h, many))));
  grid = t.grid;
  wave = λ step. t.wave (s.wave step);
}

pub all_grown_kept : (os ps : List Owner) → EachTo Kept os ps → IsGrid (all_ends os) → AllGrown os ps
all_grown_kept os ps kept g = record {
  many = kept.many;
  each = λ i d h. grown_kept (get_or os i d) (get_or ps i d) (kept.each i d h);
  grid = grid_after os ps kept g;
  wave = λ step. step_then os ps kept.many (λ i d h. (kept.each i d h).block.level.wave) step;
}

pub same_rest : (os ps : List Owner) → map rest_of ps ≡ map rest_of os → (i : ℕ) (d : Owner) → rest_of (get_or ps i d) ≡ rest_of (get_or os i d)
same_rest os ps rest i d = sym (get_or-map rest_of ps i d) ∙ (ap (λ l. get_or l i (rest_of d)) rest ∙ get_or-map rest_of os i d)

pub all_grown_looked : (os ps : List Owner) → length ps ≡ length os → IsGrid (all_ends ps) → map rest_of ps ≡ map rest_of os → EachTo SameHistory (all_ends os) (all_ends ps) → AllGrown os ps
all_grown_looked os ps many g rest same = record {
  many = many;
  each = λ i d h.
      (let lo = length-map os ends_of in
      let old = ends_at os i d.ends d h in
      let new = ends_at ps i d.ends d (omega (arith, h, many)) in
      let seen = same.each i d.ends (omega (arith, h, lo)) in
      grown_looked (get_or os i d) (get_or ps i d)
      (subst (λ (u : Ends Notes). SameHistory u (get_or ps i d).ends) old (subst (λ (u : Ends Notes). SameHistory (get_or (all_ends os) i d.ends) u) new seen))
      (same_rest os ps rest i d));
  grid = g;
  wave = λ step. step_then os ps many (λ i d h. ap (λ (r : Part × Outboxes). r.0.wave) (same_rest os ps rest i d)) step;
}

pub all_grown_grid : (os ps : List Owner) → AllGrown os ps → IsGrid (all_ends ps)
all_grown_grid os ps s = s.grid

-- ---- what is opened in all parts

-- a distance
pub all_grown_waves : (os ps : List Owner) (dist : ℕ) → length ps ≡ length os → ((i : ℕ) (d : Owner) → i < length os → JoinsWave dist (get_or os i d) (get_or ps i d)) → IsGrid (all_ends os) → AllGrown os ps
all_grown_waves os ps dist many opens g = record {
  many = many;
  each = λ i d h. (opens i d h).grown;
  grid = subst (λ (l : List (Ends Notes)). IsGrid l) (sym (same_ends os ps many (λ i d h. (opens i d h).ends))) g;
  wave = λ step i d h.
      (let low : i < length os = omega (arith, h, many) in
      (opens i d low).wave ∙ (ap (λ w. max w dist) (step i d low) ∙ sym (opens 0 d (omega (arith, low))).wave));
}

-- owners that were finished are so again, where nothing is on its way
pub finished_grown : (value : List ℕ → ℤ) (n : ℕ) (os ps : List Owner) → AllGrown os ps → AreSent ps → AreReceived ps → AreFinished value n os → AreFinished value n ps
finished_grown value n os ps grown sent received f =
    let many = grown.many in
    let low : (i : ℕ) → i < length ps → i < length os = λ i h. omega (arith, h, many) in
    let first : 0 < length os = (let s = f.some in omega (arith, s)) in
    record {
      some = (let s = f.some in omega (arith, s, many));
      grid = grown.grid;
      sent = sent;
      received = received;
      sound = λ i d h. (grown.each i d (low i h)).sound value (f.sound i d (low i h));
      level = λ i d h. (grown.each i d (low i h)).level ∙ f.level i d (low i h);
      gain = λ i d h. (grown.each i d (low i h)).gain ∙ (f.gain i d (low i h) ∙ sym (grown.each 0 d first).gain);
      wave = grown.wave f.wave;
    }

pub ruleset growing = (all_grown_refl, all_grown_trans, all_grown_grid)
