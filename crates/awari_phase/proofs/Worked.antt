-- Owners that worked, each up to its fault if it had one.
use Rattle.std.proofs.Common.{◌≡◌, ℕ, ◌<◌, inl, inr, List, [], ◌∷◌, ◌++◌, take, drop, Option, Some, None, All, map, ℤ, length, get_or, refl, sym, subst, subst₂, ap, append-nil, ◌∙◌, arith, append_assoc, length-append}
use Rattle.std.proofs.lemmas.List.{get_or_append_left, length-map, map-append}
use Rattle.std.proofs.lemmas.List.Elements.{All-append, All-weaker}
use Rattle.std.proofs.lemmas.Bool.{cases_lt}
use Rattle.std.proofs.Math.Seq.{get_or-append_seam}
use Rattle.awari_block.specs.Each.{EachTo}
use Rattle.awari_lines.specs.Rings.{IsGrid, SameHistory, SamePairs, received_from, sent_to}
use Rattle.awari_lines.specs.declared.ends.Ends.{Ends}
use Rattle.awari_block.specs.Part.{Part}
use Rattle.awari_owner.specs.declared.faults.OwnerFault.{OwnerFault}
use Rattle.awari_block.specs.declared.notes.Note.{Note}
use Rattle.awari_phase.specs.declared.owners.Owner.{Owner}
use Rattle.awari_phase.specs.Owners.{AllGrown, AreFinished, AreReceived, AreTogether, IsOpenBatch, Kept, Notes, OpenBehind, JoinsWave, Rounds, Swept, all_ends, ends_of, items_of, rest_of}
use Rattle.awari_phase.specs.PhaseFault.{AreWell}
use Rattle.awari_phase.specs.Stops.{HasWorked, HaveWorked}
use Rattle.awari_phase.proofs.Grown.{grid_after, grid_pairs}
use Rattle.awari_phase.proofs.Keeping.{pairs_then, open_stake}
use Rattle.awari_block.proofs.ListParts.{written}
use Rattle.awari_phase.proofs.Together.{ends_there, many_at, number_at}
use Rattle.awari_phase.proofs.Gaining.{all_grown_waves, same_rest}
use Rattle.awari_phase.proofs.Each.{same_ends}
use Rattle.awari_owner.specs.Outboxes.{Outboxes}

-- on the same rings
worked_pairs : (a b : Owner) → HasWorked a b → SamePairs a.ends b.ends
worked_pairs a b worked = at b.fault refl
  where
    at : (told : Option OwnerFault) → b.fault ≡ told → SamePairs a.ends b.ends
    at None is = (worked.kept is).pairs
    at (Some fault) is =
        let h = worked.stopped fault is in
        elim h.stops [
          | inl t ↦ pairs_then a.ends h.until.ends b.ends h.kept.pairs t.pairs
          | inr t ↦ subst (λ (e : Ends Notes). SamePairs a.ends e) (sym t.ends) h.kept.pairs
        ]

pub worked_grid : (os ps : List Owner) → HaveWorked os ps → IsGrid (all_ends os) → IsGrid (all_ends ps)
worked_grid os ps worked g = grid_pairs os ps worked.many (λ i d h. worked_pairs (get_or os i d) (get_or ps i d) (worked.each i d h)) g

-- one owner more at the end, of which the same holds
pub pushed_worked : (rest bs all : List Owner) (owner last : Owner) → all ≡ bs ++ last ∷ [] → HaveWorked rest bs → HasWorked owner last → HaveWorked (rest ++ owner ∷ []) all
pushed_worked rest bs all owner last is each end = subst (HaveWorked (rest ++ owner ∷ [])) (sym is) (record { many = many; each = at })
  where
    many : length (bs ++ last ∷ []) ≡ length (rest ++ owner ∷ [])
    many = let a = length-append bs (last ∷ []) in let b = length-append rest (owner ∷ []) in let e = each.many in omega (arith, a, b, e)

    at : (i : ℕ) (d : Owner) → i < length (rest ++ owner ∷ []) → HasWorked (get_or (rest ++ owner ∷ []) i d) (get_or (bs ++ last ∷ []) i d)
    at i d low = elim (cases_lt i (length rest)) [
      | inl less ↦
          let left = get_or_append_left rest (owner ∷ []) d i less in
          let e = each.many in
          let right = get_or_append_left bs (last ∷ []) d i (omega (arith, less, e)) in
          subst (λ (u : Owner). HasWorked u (get_or (bs ++ last ∷ []) i d)) (sym left) (subst (λ (u : Owner). HasWorked (get_or rest i d) u) (sym right) (each.each i d less))
      | inr more ↦
          let b = length-append rest (owner ∷ []) in
          let e = each.many in
          let here : i ≡ length rest = omega (arith, more, low, b) in
          let there : i ≡ length bs = omega (arith, here, e) in
          let left : get_or (rest ++ owner ∷ []) i d ≡ owner = ap (λ k. get_or (rest ++ owner ∷ []) k d) here ∙ get_or-append_seam rest owner [] d in
          let right : get_or (bs ++ last ∷ []) i d ≡ last = ap (λ k. get_or (bs ++ last ∷ []) k d) there ∙ get_or-append_seam bs last [] d in
          subst (λ (u : Owner). HasWorked u (get_or (bs ++ last ∷ []) i d)) (sym left) (subst (λ (u : Owner). HasWorked owner u) (sym right) end)
    ]

-- without a fault
module _ (os ps qs : List Owner) (same : qs ≡ ps) (worked : HaveWorked os ps) (well : AreWell qs) where
  none : (i : ℕ) (d : Owner) → i < length os → (get_or ps i d).fault ≡ None
  none i d h = let w = worked.many in let long = ap length same in subst (λ (l : List Owner). (get_or l i d).fault ≡ None) same (well i d (omega (arith, h, w, long)))

  well_kept : EachTo Kept os ps
  well_kept = record { many = worked.many; each = λ i d h. (worked.each i d h).kept (none i d h) }

  well_swept : EachTo Swept os ps
  well_swept = record { many = worked.many; each = λ i d h. (worked.each i d h).swept (none i d h) }

-- owners that kept what a worker keeps are sound together where they were
together_kept : (value : List ℕ → ℤ) (n : ℕ) (os ps : List Owner) → EachTo Kept os ps → AreTogether value n os → AreTogether value n ps
together_kept value n os ps all t = record {
  some = (let s = t.some in let long = all.many in omega (arith, s, long));
  grid = grid_after os ps all t.grid;
  sound = λ i d h. (all.each i d (low i h)).sound value (t.sound i d (low i h));
  level = λ i d h. (all.each i d (low i h)).block.level.level ∙ t.level i d (low i h);
  gain = λ i d h. (all.each i d (low i h)).block.level.gain ∙ t.gain i d (low i h) ∙ sym (all.each 0 d first).block.level.gain;
  wave = λ i d h. (all.each i d (low i h)).block.level.wave ∙ t.wave i d (low i h) ∙ sym (all.each 0 d first).block.level.wave;
  waits = waits;
}
  where
    low : (i : ℕ) → i < length ps → i < length os
    low i h = let long = all.many in omega (arith, h, long)

    first : 0 < length os
    first = let s = t.some in omega (arith, s)

    waits : (i j : ℕ) (d : Owner) → i < length ps → j < length ps → (i ≡ j → ⊥) → OpenBehind (get_or ps j d).part (received_from (get_or ps i d).ends j) (sent_to (get_or ps j d).ends i)
    waits i j d h h' apart =
        let o = t.waits i j d (low i h) (low j h') apart in
        let here = get_or os i d in
        let there = get_or os j d in
        let came = (all.each i d (low i h)).received j ((λ e. apart (sym (e ∙ number_at os d t.grid i (low i h)))), (let m = many_at os d t.grid i (low i h) in let l = low j h' in omega (arith, m, l))) in
        let gone = (all.each j d (low j h')).sent i ((λ e. apart (e ∙ number_at os d t.grid j (low j h'))), (let m = many_at os d t.grid j (low j h') in let l = low i h in omega (arith, m, l))) in
        record {
          before = o.before;
          after = o.after ++ gone.0;
          came = (o.came.0 ++ came.0, sym (append_assoc o.before o.came.0 came.0) ∙ ap (λ l. l ++ came.0) o.came.1 ∙ came.1);
          went = gone.1 ∙ ap (λ l. l ++ gone.0) o.went ∙ append_assoc o.before o.after gone.0;
          opened = subst (λ (bs : List (List Note)). All (IsOpenBatch (get_or ps j d).part) bs) (sym (map-append items_of o.after gone.0))
              (All-weaker (IsOpenBatch there.part) (IsOpenBatch (get_or ps j d).part) (open_stake there.part (get_or ps j d).part (all.each j d (low j h')).block) (map items_of o.after ++ map items_of gone.0)
              (All-append (IsOpenBatch there.part) (map items_of o.after) (map items_of gone.0) o.opened (gone.2 value (t.sound j d (low j h')))));
        }

-- so a round was made of them
pub rounds : (os ps qs : List Owner) → qs ≡ ps → HaveWorked os ps → AreWell qs → IsGrid (all_ends os) → Rounds os ps
rounds os ps qs same worked well grid =
    let kept = well_kept os ps qs same worked well in
    record { kept = kept; swept = well_swept os ps qs same worked well; grid = worked_grid os ps worked grid; together = λ value n. together_kept value n os ps kept }

-- what grew is sound together where it was, if what waits is of the open gain and wave
together_grown : (value : List ℕ → ℤ) (n : ℕ) (os ps : List Owner) → AllGrown os ps
    → ((i j : ℕ) (d : Owner) → i < length ps → j < length ps → (i ≡ j → ⊥) → OpenBehind (get_or ps j d).part (received_from (get_or ps i d).ends j) (sent_to (get_or ps j d).ends i))
    → AreTogether value n os → AreTogether value n ps
together_grown value n os ps grown waits t =
    let many = grown.many in
    let low : (i : ℕ) → i < length ps → i < length os = λ i h. omega (arith, h, many) in
    let first : 0 < length os = (let s = t.some in omega (arith, s)) in
    record {
      some = (let s = t.some in omega (arith, s, many));
      grid = grown.grid;
      sound = λ i d h. (grown.each i d (low i h)).sound value (t.sound i d (low i h));
      level = λ i d h. (grown.each i d (low i h)).level ∙ t.level i d (low i h);
      gain = λ i d h. (grown.each i d (low i h)).gain ∙ t.gain i d (low i h) ∙ sym (grown.each 0 d first).gain;
      wave = grown.wave t.wave;
      waits = waits;
    }

-- after a look at all rings
pub together_looked : (value : List ℕ → ℤ) (n : ℕ) (os ps : List Owner) → AllGrown os ps → map rest_of ps ≡ map rest_of os
    → EachTo SameHistory (all_ends os) (all_ends ps) → AreTogether value n os → AreTogether value n ps
together_looked value n os ps grown rest same t = together_grown value n os ps grown waits t
  where
    many : length ps ≡ length os
    many = grown.many

    low : (i : ℕ) → i < length ps → i < length os
    low i h = let m = many in omega (arith, h, m)

    history : (i : ℕ) (d : Owner) → i < length ps → SameHistory (get_or os i d).ends (get_or ps i d).ends
    history i d h =
        subst (λ (u : Ends Notes). SameHistory u (get_or ps i d).ends) (ends_there os i d)
        (subst (λ (u : Ends Notes). SameHistory (get_or (all_ends os) i d.ends) u) (ends_there ps i d) (same.each i d.ends (subst (λ k. i < k) (sym (length-map os ends_of)) (low i h))))

    waits : (i j : ℕ) (d : Owner) → i < length ps → j < length ps → (i ≡ j → ⊥) → OpenBehind (get_or ps j d).part (received_from (get_or ps i d).ends j) (sent_to (get_or ps j d).ends i)
    waits i j d h h' apart =
        let o = t.waits i j d (low i h) (low j h') apart in
        let part : (get_or ps j d).part ≡ (get_or os j d).part = ap (λ (r : Part × Outboxes). r.0) (same_rest os ps rest j d) in
        let received = (history i d h).received j (λ e. apart (sym (e ∙ number_at os d t.grid i (low i h)))) in
        let sent = (history j d h').sent i (λ e. apart (e ∙ number_at os d t.grid j (low j h'))) in
        record {
          before = o.before;
          after = o.after;
          came = (o.came.0, o.came.1 ∙ sym received);
          went = sent ∙ o.went;
          opened = subst (λ (p : Part). All (IsOpenBatch p) (map items_of o.after)) (sym part) o.opened;
        }

none_waits : (ps : List Owner) → AreReceived ps → (i j : ℕ) (d : Owner) → i < length ps → j < length ps → (i ≡ j → ⊥)
    → OpenBehind (get_or ps j d).part (received_from (get_or ps i d).ends j) (sent_to (get_or ps j d).ends i)
none_waits ps received i j d h h' apart =
    let in_ends : (k : ℕ) → k < length ps → k < length (all_ends ps) = λ k low. subst (λ x. k < x) (sym (length-map ps ends_of)) low in
    let all : received_from (get_or ps i d).ends j ≡ sent_to (get_or ps j d).ends i =
    subst₂ (λ (a b : Ends Notes). received_from a j ≡ sent_to b i) (ends_there ps i d) (ends_there ps j d) (received i j d.ends (in_ends i h) (in_ends j h') apart) in
    record {
      before = received_from (get_or ps i d).ends j;
      after = [];
      came = ([], append-nil (received_from (get_or ps i d).ends j));
      went = sym all ∙ sym (append-nil (received_from (get_or ps i d).ends j));
      opened = λ k x low. absurd (omega (arith, low));
    }

-- where nothing waits
together_received : (value : List ℕ → ℤ) (n : ℕ) (os ps : List Owner) → AllGrown os ps → AreReceived ps → AreTogether value n os → AreTogether value n ps
together_received value n os ps grown received t = together_grown value n os ps grown (none_waits ps received) t

-- with a distance opened, where nothing waits
pub together_waves : (value : List ℕ → ℤ) (n : ℕ) (os ps : List Owner) (dist : ℕ) → length ps ≡ length os
    → ((i : ℕ) (d : Owner) → i < length os → JoinsWave dist (get_or os i d) (get_or ps i d)) → IsGrid (all_ends os) → AreReceived os → AreTogether value n os → AreTogether value n ps
together_waves value n os ps dist many opens grid received t =
    let same : all_ends ps ≡ all_ends os = same_ends os ps many (λ i d h. (opens i d h).ends) in
    together_received value n os ps (all_grown_waves os ps dist many opens grid)
    (λ i j d. subst (λ (l : List (Ends Notes)). i < length l → j < length l → (i ≡ j → ⊥) → received_from (get_or l i d) j ≡ sent_to (get_or l j d) i) (sym same) (received i j d)) t

-- as owners are between two gains
pub together_finished : (value : List ℕ → ℤ) (n : ℕ) (os : List Owner) → AreFinished value n os → AreTogether value n os
together_finished value n os f = record {
  some = f.some;
  grid = f.grid;
  sound = f.sound;
  level = f.level;
  gain = f.gain;
  wave = f.wave;
  waits = none_waits os f.received;
}

-- what a slice of as many owners writes back
pub written_back : (os now new : List Owner) (count : ℕ) → count ≡ length os → now ≡ os → length new ≡ length now → take count (new ++ drop (length new) os) ≡ new
written_back os now new count many is long =
    let same = ap length is in
    written new os count (omega (arith, long, same, many)) (sym many)
