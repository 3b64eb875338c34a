-- How boards are shared out, and what is sent where.
use Rattle.std.proofs.Common.{◌≡◌, ℕ, suc, ◌+◌, ◌-◌, ◌*◌, ◌/◌, ◌<◌, ◌≤◌, ◌==◌, inl, inr, Bool, true, false, not, ◌&&◌, cond, nat_le, nat_lt, min, List, [], ◌∷◌, length, get_or, map, filter, sum, All, refl, sym, ap, subst₂, ◌∙◌, arith, eqb-true}
use Rattle.std.proofs.lemmas.Bool.{cases_lt, cases_eq, false≢true, ne_eqb}
use Rattle.std.proofs.lemmas.Bool.Decides.{nat_tests}
use Rattle.std.proofs.lemmas.Nat.{le-div, div_below, div-add-mod', mod_below, mul-le}
use Rattle.std.proofs.Math.Nat.{div-one, suc-mul, div-mul-le_self, lt-div-mul-add}
use Rattle.awari_board.specs.Rules.{IsBoard}
use Rattle.awari_rank.specs.Rank.{rank_of, size_of}
use Rattle.awari_rank.proofs.Ranking.{rank_of-below}
use Rattle.awari_block.specs.Notes.{IsQuietMove, kind_of}
use Rattle.awari_heard.specs.Level.{IsWhole}
use Rattle.awari_block.specs.Shares.{first_rank}
use Rattle.awari_owner.specs.Outboxes.{Outboxes, with_note, with_notes}
use Rattle.awari_owner.specs.Queues.{Queue, batches_of, queue_in, room_in}
use Rattle.awari_block.specs.Part.{Part, stored_at}
use Rattle.awari_scan.specs.Found.{Source}
use Rattle.awari_owner.specs.Spread.{is_held, note_to, is_in_block, IsPartOf, Sends, goes_to, with_sent, with_all_sent, PutsAll}
use Rattle.awari_block.specs.declared.notes.Note.{Note}
use Rattle.awari_block.specs.declared.notes.Kind.{Kind}
use Rattle.awari_owner.proofs.Sending.{batches_length}
use Rattle.awari_owner.proofs.Firsts.{IsTold}
use Rattle.awari_owner.proofs.Hearing.{note_fits}
use Rattle.awari_owner.proofs.Spreading.{AreSources}
use Rattle.awari_owner.proofs.SpreadNotes.{gives_by}

and_false : (t : Bool) → (t && false) ≡ false
and_false true = refl
and_false false = refl

split : (n a b : ℕ) → (b ≡ a → ⊥) → (t : Bool) → (n == b) ≡ t → (not (n == a) && (n == b)) ≡ (n == b)
split n a b h true e = ap (λ t. not t && (n == b)) (ne_eqb n a (λ f. h (sym (eqb-true n b e) ∙ f)))
split n a b h false e = ap (λ t. not (n == a) && t) e ∙ and_false (not (n == a)) ∙ sym e

apart : (n a b : ℕ) → (b ≡ a → ⊥) → (not (n == a) && (n == b)) ≡ (n == b)
apart n a b h = split n a b h (n == b) refl

module _ (boards owners : ℕ) (some : 1 ≤ owners) (many : 0 < boards) where
  pub span_some : 0 < (boards + (owners - 1)) / owners
  span_some = let e : 1 * owners ≡ owners = omega arith in le-div 1 (boards + (owners - 1)) owners some (omega (arith, e, many, some))

  covered : boards ≤ owners * ((boards + (owners - 1)) / owners)
  covered =
      let sum = div-add-mod' (boards + (owners - 1)) owners in
      let rest = mod_below (boards + (owners - 1)) owners some in
      let swap = turned ((boards + (owners - 1)) / owners) owners in
      omega (arith, sum, rest, swap)
    where
      turned : (a b : ℕ) → a * b ≡ b * a
      turned a b = omega arith

  -- the owner of each board
  pub owner_below : (r : ℕ) → r < boards → r / ((boards + (owners - 1)) / owners) < owners
  owner_below r h = div_below r ((boards + (owners - 1)) / owners) owners span_some (let all = covered in omega (arith, h, all))

  pub in_block : (r k : ℕ) → r < boards → is_in_block boards owners k r ≡ (r / ((boards + (owners - 1)) / owners) == k)
  in_block r k h = at ((boards + (owners - 1)) / owners) span_some
    where
      both : (a b r j k : ℕ) → a ≤ r → r < b → j ≡ k → (nat_le a r && nat_lt r b) ≡ (j == k)
      both a b r j k low high same = grind (arith, nat_tests)

      before : (a b r j k : ℕ) → r < a → (j ≡ k → ⊥) → (nat_le a r && nat_lt r b) ≡ (j == k)
      before a b r j k low apart = grind (arith, nat_tests)

      after : (a b r j k : ℕ) → b ≤ r → (j ≡ k → ⊥) → (nat_le a r && nat_lt r b) ≡ (j == k)
      after a b r j k high apart = grind (arith, nat_tests)

      at : (s : ℕ) → 0 < s → (nat_le (min (k * s) boards) r && nat_lt r (min ((k + 1) * s) boards)) ≡ (r / s == k)
      at s pos = elim (cases_eq (r / s) k) [
        | inl same ↦ both (min (k * s) boards) (min ((k + 1) * s) boards) r (r / s) k
            (let low = div-mul-le_self r s in let e : r / s * s ≡ k * s = ap (λ j. j * s) same in omega (arith, low, e))
            (let high = lt-div-mul-add {a = r} {b = s} pos in let e : r / s * s ≡ k * s = ap (λ j. j * s) same in omega (arith, high, e, next, h)) same
        | inr apart ↦ elim (cases_lt (r / s) k) [
          | inl less ↦ before (min (k * s) boards) (min ((k + 1) * s) boards) r (r / s) k
              (let high = lt-div-mul-add {a = r} {b = s} pos in let more = mul-le (suc (r / s)) s k s (omega (arith, less)) (omega arith) in let e = suc-mul (r / s) s in omega (arith, high, more, e, h)) apart
          | inr more ↦ after (min (k * s) boards) (min ((k + 1) * s) boards) r (r / s) k
              (let low = div-mul-le_self r s in let le = mul-le (suc k) s (r / s) s (omega (arith, more, apart)) (omega arith) in let e = suc-mul k s in omega (arith, low, le, e, next)) apart
        ]
      ]
        where
          next : (k + 1) * s ≡ k * s + s
          next = (let e : k + 1 ≡ suc k = omega arith in ap (λ j. j * s) e) ∙ suc-mul k s

-- the block of a part, by its owner
pub held_block : (part : Part) (outboxes : Outboxes) → IsPartOf part outboxes → (r : ℕ) → is_held part r ≡ is_in_block (size_of part.level) (length outboxes.queues) outboxes.owner r
held_block part outboxes is r =
    at part.start (length part.cells) (first_rank (size_of part.level) (length outboxes.queues) outboxes.owner) (first_rank (size_of part.level) (length outboxes.queues) (outboxes.owner + 1)) is.start is.end
  where
    at : (start len a b : ℕ) → start ≡ a → start + len ≡ b → (nat_le start r && nat_lt (r - start) len) ≡ (nat_le a r && nat_lt r b)
    at start len a b e f = grind (arith, nat_tests)

-- one owner has the whole level
pub first_of_one : (n : ℕ) → first_rank n 1 0 ≡ 0
first_of_one n = at ((n + (1 - 1)) / 1)
  where
    at : (s : ℕ) → min (0 * s) n ≡ 0
    at s = omega arith

pub end_of_one : (n : ℕ) → first_rank n 1 (0 + 1) ≡ n
end_of_one n = at ((n + (1 - 1)) / 1) (div-one (n + (1 - 1)))
  where
    at : (s : ℕ) → s ≡ n + (1 - 1) → min ((0 + 1) * s) n ≡ n
    at s e = omega (arith, e)

pub whole_part : (part : Part) (outboxes : Outboxes) → IsWhole part → outboxes.owner ≡ 0 → length outboxes.queues ≡ 1 → IsPartOf part outboxes
whole_part part outboxes whole first one = record {
  owner = omega (arith, first, one);
  start = subst₂ (λ (a b : ℕ). part.start ≡ first_rank (size_of part.level) b a) (sym first) (sym one) (whole.start ∙ sym (first_of_one (size_of part.level)));
  end = subst₂ (λ (a b : ℕ). part.start + length part.cells ≡ first_rank (size_of part.level) b (a + 1)) (sym first) (sym one)
      ((let w = whole.start in let all = whole.all in let e : part.start + length part.cells ≡ size_of part.level = omega (arith, w, all) in e) ∙ sym (end_of_one (size_of part.level)));
}

-- a board of another block goes to another owner
pub other_owner : (part : Part) (outboxes : Outboxes) → IsPartOf part outboxes → 0 < size_of part.level → (r : ℕ) → r < size_of part.level → is_held part r ≡ false
    → (r / ((size_of part.level + (length outboxes.queues - 1)) / length outboxes.queues) < length outboxes.queues)
    × (r / ((size_of part.level + (length outboxes.queues - 1)) / length outboxes.queues) ≡ outboxes.owner → ⊥)
other_owner part outboxes is many r below out =
    let one = is.owner in
    let some : 1 ≤ length outboxes.queues = omega (arith, one) in (
      owner_below (size_of part.level) (length outboxes.queues) some many r below,
      λ same. false≢true (sym out ∙ held_block part outboxes is r ∙ in_block (size_of part.level) (length outboxes.queues) some many r outboxes.owner below ∙ eqb_same _ _ same),
    )
  where
    eqb_same : (a b : ℕ) → a ≡ b → (a == b) ≡ true
    eqb_same a b e = grind (arith, nat_tests)

-- ---- the notes

-- where each source goes to this owner just where its note is for the owner's block
sent_by : (part : Part) (span to : ℕ) (kind : Kind) (test : ℕ → Bool) (sources : List Source) → All (λ (y : Source). goes_to part span to y ≡ test (rank_of y.0)) sources
    → (queue : List (List Note)) → with_all_sent part span to kind queue sources ≡ with_notes queue (filter (λ (m : Note). test m.target) (map (note_to part kind) sources))
sent_by part span to kind test [] all queue = refl
sent_by part span to kind test (y ∷ sources) all queue = at (test (rank_of y.0)) refl (sent_by part span to kind test sources (λ k d h. all (suc k) d (omega (arith, h))))
  where
    at : (b : Bool) → test (rank_of y.0) ≡ b
        → ((queue : List (List Note)) → with_all_sent part span to kind queue sources ≡ with_notes queue (filter (λ (m : Note). test m.target) (map (note_to part kind) sources)))
        → with_all_sent part span to kind (with_sent part span to kind queue y) sources ≡ with_notes queue (filter (λ (m : Note). test m.target) (note_to part kind y ∷ map (note_to part kind) sources))
    at true e rest =
        ap (λ b. with_all_sent part span to kind (cond b (with_note queue (note_to part kind y)) queue) sources) (all 0 y (omega arith) ∙ e)
        ∙ rest (with_note queue (note_to part kind y))
        ∙ ap (λ b. with_notes queue (cond b (note_to part kind y ∷ filter (λ (m : Note). test m.target) (map (note_to part kind) sources)) (filter (λ (m : Note). test m.target) (map (note_to part kind) sources)))) (sym e)
    at false e rest =
        ap (λ b. with_all_sent part span to kind (cond b (with_note queue (note_to part kind y)) queue) sources) (all 0 y (omega arith) ∙ e)
        ∙ rest queue
        ∙ ap (λ b. with_notes queue (cond b (note_to part kind y ∷ filter (λ (m : Note). test m.target) (map (note_to part kind) sources)) (filter (λ (m : Note). test m.target) (map (note_to part kind) sources)))) (sym e)

none_by : (part : Part) (span to : ℕ) (kind : Kind) (sources : List Source) → All (λ (y : Source). goes_to part span to y ≡ false) sources
    → (queue : List (List Note)) → with_all_sent part span to kind queue sources ≡ queue
none_by part span to kind [] all queue = refl
none_by part span to kind (y ∷ sources) all queue =
    ap (λ b. with_all_sent part span to kind (cond b (with_note queue (note_to part kind y)) queue) sources) (all 0 y (omega arith))
    ∙ none_by part span to kind sources (λ k d h. all (suc k) d (omega (arith, h))) queue

abbrev pub outboxes_of : ℕ → List Queue → Outboxes
outboxes_of owner queues = record { owner = owner; queues = batches_of queues }

-- what is for the own block goes to no queue
pub own_stays : (part : Part) (q : List ℕ) (sources : List Source) (kind : Kind) (span owner : ℕ) (before old new : List Queue) → AreSources q sources → sum q ≡ part.level
    → IsPartOf part (outboxes_of owner before) → 0 < size_of part.level → span ≡ (size_of part.level + (length before - 1)) / length before
    → batches_of old ≡ batches_of before → PutsAll part span kind old new sources → queue_in new owner ≡ queue_in before owner
own_stays part q sources kind span owner before old new are level is many spans same puts =
    puts owner (let o = is.owner in omega (arith, o, olds)) ∙ none_by part span owner kind sources (λ k d h. to_own (get_or sources k d) (are.each k d h)) (queue_in old owner)
    ∙ ap (λ b. get_or b owner []) same
  where
    olds : length old ≡ length (batches_of before)
    olds = sym (batches_length old) ∙ ap length same

    some : 1 ≤ length (batches_of before)
    some = let o = is.owner in omega (arith, o)

    spans' : span ≡ (size_of part.level + (length (batches_of before) - 1)) / length (batches_of before)
    spans' = spans ∙ ap (λ n. (size_of part.level + (n - 1)) / n) (sym (batches_length before))

    none : (a b : Bool) → a ≡ b → (not a && b) ≡ false
    none a b e = grind arith

    below : (y : Source) → IsBoard y.0 × (sum y.0 ≡ sum q) × IsQuietMove y.0 y.1 q → rank_of y.0 < size_of part.level
    below y each = let low = rank_of-below y.0 each.0.pits in let size : size_of (sum y.0) ≡ size_of part.level = ap size_of (each.1 ∙ level) in omega (arith, low, size)

    to_own : (y : Source) → IsBoard y.0 × (sum y.0 ≡ sum q) × IsQuietMove y.0 y.1 q → goes_to part span owner y ≡ false
    to_own y each = none (is_held part (rank_of y.0)) (rank_of y.0 / span == owner)
        (held_block part (outboxes_of owner before) is (rank_of y.0) ∙ in_block (size_of part.level) (length (batches_of before)) some many (rank_of y.0) owner (below y each) ∙ ap (λ s. rank_of y.0 / s == owner) (sym spans'))

pub sends_by : (part : Part) (q : List ℕ) (sources : List Source) (kind : Kind) (span owner : ℕ) (before old new : List Queue) → 1 ≤ part.gain → IsTold part q sources kind
    → IsPartOf part (outboxes_of owner before) → 0 < size_of part.level → span ≡ (size_of part.level + (length before - 1)) / length before → length new ≡ length before
    → batches_of old ≡ batches_of before → PutsAll part span kind old new sources
    → Sends part q sources (map (note_to part (kind_of (stored_at part (rank_of q)).score)) sources) (outboxes_of owner before) (outboxes_of owner new)
sends_by part q sources kind span owner before old new one told is many spans len same puts = record {
  settled = told.settled;
  gives = gives_by part q (stored_at part (rank_of q)).score (kind_of (stored_at part (rank_of q)).score) sources (λ y quiet stones. note_fits part q (stored_at part (rank_of q)).score y one told.either stones quiet) told.are.each told.level;
  same_owner = refl;
  owners = batches_length new ∙ len ∙ sym (batches_length before);
  own = own_stays part q sources kind span owner before old new told.are told.level is many spans same puts;
  sent = λ to inside other.
      puts to (omega (arith, inside, olds, batches_length before))
      ∙ ap (λ (k : Kind). with_all_sent part span to k (queue_in old to) sources) told.kinds
      ∙ sent_by part span to (kind_of (stored_at part (rank_of q)).score) (is_in_block (size_of part.level) (length (batches_of before)) to) sources
      (λ k d h. to_other to other (get_or sources k d) (told.are.each k d h)) (queue_in old to)
      ∙ ap (λ b. with_notes (get_or b to []) (filter (λ (m : Note). is_in_block (size_of part.level) (length (batches_of before)) to m.target) (map (note_to part (kind_of (stored_at part (rank_of q)).score)) sources))) same;
}
  where
    olds : length old ≡ length (batches_of before)
    olds = sym (batches_length old) ∙ ap length same

    some : 1 ≤ length (batches_of before)
    some = let o = is.owner in omega (arith, o)

    spans' : span ≡ (size_of part.level + (length (batches_of before) - 1)) / length (batches_of before)
    spans' = spans ∙ ap (λ n. (size_of part.level + (n - 1)) / n) (sym (batches_length before))

    below : (y : Source) → IsBoard y.0 × (sum y.0 ≡ sum q) × IsQuietMove y.0 y.1 q → rank_of y.0 < size_of part.level
    below y each = let low = rank_of-below y.0 each.0.pits in let size : size_of (sum y.0) ≡ size_of part.level = ap size_of (each.1 ∙ told.level) in omega (arith, low, size)

    owner_is : (y : Source) → IsBoard y.0 × (sum y.0 ≡ sum q) × IsQuietMove y.0 y.1 q → (to : ℕ)
        → is_in_block (size_of part.level) (length (batches_of before)) to (rank_of y.0) ≡ (rank_of y.0 / span == to)
    owner_is y each to = in_block (size_of part.level) (length (batches_of before)) some many (rank_of y.0) to (below y each) ∙ ap (λ s. rank_of y.0 / s == to) (sym spans')

    eqb_same : (a b : ℕ) → a ≡ b → (a == b) ≡ true
    eqb_same a b e = grind (arith, nat_tests)

    to_other : (to : ℕ) → (to ≡ owner → ⊥) → (y : Source) → IsBoard y.0 × (sum y.0 ≡ sum q) × IsQuietMove y.0 y.1 q
        → goes_to part span to y ≡ is_in_block (size_of part.level) (length (batches_of before)) to (rank_of y.0)
    to_other to other y each =
        ap (λ b. not b && (rank_of y.0 / span == to)) (held_block part (outboxes_of owner before) is (rank_of y.0) ∙ owner_is y each owner)
        ∙ apart (rank_of y.0 / span) owner to other ∙ sym (owner_is y each to)

-- there is room for what goes to others
pub room_for : (part : Part) (owner : ℕ) (before after : List Queue) (span : ℕ) → IsPartOf part (outboxes_of owner before) → 0 < size_of part.level
    → span ≡ (size_of part.level + (length before - 1)) / length before → length after ≡ length before
    → ((to : ℕ) → to < length before → (to ≡ owner → ⊥) → 288 ≤ room_in after to)
    → (r : ℕ) → r < size_of part.level → is_held part r ≡ false → (r / span < length after) × (288 ≤ room_in after (r / span))
room_for part owner before after span is many spans len room r below out =
    let other = other_owner part (outboxes_of owner before) is many r below out in
    let spans' : span ≡ (size_of part.level + (length (batches_of before) - 1)) / length (batches_of before) = spans ∙ ap (λ n. (size_of part.level + (n - 1)) / n) (sym (batches_length before)) in
    let place : r / span ≡ r / ((size_of part.level + (length (batches_of before) - 1)) / length (batches_of before)) = ap (λ s. r / s) spans' in
    let low : r / span < length before = let o = other.0 in omega (arith, o, place, batches_length before) in
    (omega (arith, low, len), room (r / span) low (λ e. other.1 (sym place ∙ e)))
