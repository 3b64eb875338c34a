-- No distance is greater than the number of boards: a settled board has a settled one behind it at each smaller distance.
use Rattle.std.proofs.Common.{Option, Some, is_some, length, ◌≡◌, ℕ, zero, suc, ◌+◌, ◌-◌, ◌^◌, ◌<◌, ◌≤◌, ◌⊎◌, inl, inr, Bool, true, false, cond, nat_le, List, [], ◌∷◌, get_or, ℤ, refl, sym, ap, subst, ◌∙◌, arith}
use Rattle.std.specs.Prelude.{count_by}
use Rattle.std.proofs.lemmas.Bool.{false≢true}
use Rattle.std.proofs.lemmas.Bool.Decides.{nat_tests}
use Rattle.std.proofs.lemmas.List.Sums.{count_by-le-length, sum_by-cons}
use Rattle.awari_rank.specs.Rank.{rank_of, size_of}
use Rattle.awari_rank.proofs.Examples.{highest}
use Rattle.awari_rank.proofs.Ranking.{rank_of-below}
use Rattle.awari_rank.proofs.Reaching.{board_reached, size_of-grows}
use Rattle.awari_block.specs.Notes.{Has}
use Rattle.awari_block.specs.Plain as plain
use Rattle.awari_block.specs.Plain.{IsDistance, IsPlain}
use Rattle.awari_block.specs.Tally.{IsStatus}
use Rattle.awari_block.specs.Tally as tally
use Rattle.awari_block.specs.Cells.{status_by, status_of}
use Rattle.awari_block.specs.Blocks.{no_cell, cell_in}
use Rattle.awari_heard.specs.Finish.{dist_by}
use Rattle.awari_block.specs.Part.{Part, InBlock, cell_at, notes_for, settled_by, settled_at}
use Rattle.awari_heard.specs.Level.{AreWhole, AreTold, IsSpreadNote, all_cells, known_at, no_part, part_at}
use Rattle.awari_block.specs.declared.cells.Cell.{Cell}
use Rattle.awari_block.specs.declared.cells.Mark.{Mark}
use Rattle.awari_block.specs.declared.cells.Mark.TheVariants as mark
use Rattle.awari_block.specs.declared.notes.Note.{Note}
use Rattle.awari_block.proofs.NoteLists.{far_attained}
use Rattle.awari_heard.proofs.RightCells.{settled_status}
use Rattle.awari_heard.proofs.Levels.{block_at, cells_in_all, holds, known_there, next_board_is, of_level}

-- ---- the board behind one

-- a distance above 1 is one more than a note's
behind : (value : List ℕ → ℤ) (p : List ℕ) (notes : List Note) (t : ℕ) (v : ℤ) (d : ℕ) → IsPlain value p notes t (plain.Settled v d)
    → (d ≤ 1) ⊎ ((m : Note) × Has notes m × (d ≡ m.dist + 1))
behind value p notes t v d (inl ended) = inl (omega (arith, ended.2))
behind value p notes t v d (inr going) = at going.1.distance
  where
    at : IsDistance value p notes v d → (d ≤ 1) ⊎ ((m : Note) × Has notes m × (d ≡ m.dist + 1))
    at (inl capture) = inl (omega (arith, capture.2))
    at (inr (inl note)) = inr (note.2.0, note.2.1, note.2.3)
    at (inr (inr lost)) = elim (far_attained notes) [
      | inl none ↦ inl (omega (arith, none, lost.1))
      | inr some ↦ inr (some.0, some.1, omega (arith, some.2, lost.1))
    ]

stored_dist : (c : Cell) (v : ℤ) (d : ℕ) → settled_by (status_of c) ≡ Some (v, d) → c.dist ≡ d
stored_dist c v d e = at c.mark c.score c.plans c.dist e
  where
    at : (m : Mark) (score : ℤ) (plans dist : ℕ) → settled_by (status_by m score plans dist) ≡ Some (v, d) → dist ≡ d
    at mark.Settled score plans dist e = let found = settled_status (status_by mark.Settled score plans dist) v d e in ap dist_by found.1
    at mark.Ended score plans dist e = absurd (false≢true (ap is_some e))
    at mark.Quiet score plans dist e = absurd (false≢true (ap is_some e))
    at mark.Capturing score plans dist e = absurd (false≢true (ap is_some e))
    at mark.Noted score plans dist e = absurd (false≢true (ap is_some e))

-- ---- as many boards as distances

count-cons : (P : Cell → Bool) (c : Cell) (cells : List Cell) → count_by P (c ∷ cells) ≡ cond (P c) 1 0 + count_by P cells
count-cons P c cells = sum_by-cons (λ (d : Cell). cond (P d) 1 0) c cells

count_all : (P Q : Cell → Bool) (cells : List Cell) → ((c : Cell) → P c ≡ true → Q c ≡ true) → count_by P cells ≤ count_by Q cells
count_all P Q [] all = omega arith
count_all P Q (c ∷ cells) all =
    let rest = count_all P Q cells all in
    let first = one (P c) (Q c) (all c) in
    omega (arith, rest, first, count-cons P c cells, count-cons Q c cells)
  where
    one : (a b : Bool) → (a ≡ true → b ≡ true) → cond a 1 0 ≤ cond b 1 0
    one false b h = omega arith
    one true false h = absurd (false≢true (h refl))
    one true true h = omega arith

-- more are counted, where one is that was not
count_more : (P Q : Cell → Bool) (cells : List Cell) (i : ℕ) → ((c : Cell) → P c ≡ true → Q c ≡ true) → i < length cells
    → P (get_or cells i no_cell) ≡ false → Q (get_or cells i no_cell) ≡ true → count_by P cells + 1 ≤ count_by Q cells
count_more P Q [] i all inside not_yet now = absurd (omega (arith, inside))
count_more P Q (c ∷ cells) zero all inside not_yet now =
    let rest = count_all P Q cells all in
    let none : ◌≡◌ {A = ℕ} (cond (P c) 1 0) 0 = ap (λ (b : Bool). cond b 1 0) not_yet in
    let one : ◌≡◌ {A = ℕ} (cond (Q c) 1 0) 1 = ap (λ (b : Bool). cond b 1 0) now in
    omega (arith, rest, none, one, count-cons P c cells, count-cons Q c cells)
count_more P Q (c ∷ cells) (suc i) all inside not_yet now =
    let rest = count_more P Q cells i all (omega (arith, inside)) not_yet now in
    let first = count_all P Q (c ∷ []) all in
    omega (arith, rest, first, count-cons P c cells, count-cons Q c cells, count-cons P c [], count-cons Q c [])

-- where each number from 1 to n is the distance of a cell, there are n cells at least
as_many : (cells : List Cell) (n : ℕ) → ((k : ℕ) → 1 ≤ k → k ≤ n → (i : ℕ) × (i < length cells) × ((get_or cells i no_cell).dist ≡ k))
    → n ≤ count_by (λ (c : Cell). nat_le c.dist n) cells
as_many cells zero each = omega arith
as_many cells (suc n) each =
    let before = as_many cells n (λ k low high. each k low (omega (arith, high))) in
    let (i, inside, is) = each (suc n) (omega arith) (omega arith) in
    let more = count_more (λ (c : Cell). nat_le c.dist n) (λ (c : Cell). nat_le c.dist (suc n)) cells i
    (λ c h. up c.dist n h) inside (not_yet (get_or cells i no_cell).dist n is) (now (get_or cells i no_cell).dist n is) in
    omega (arith, before, more)
  where
    up : (d n : ℕ) → nat_le d n ≡ true → nat_le d (suc n) ≡ true
    up d n h = grind (arith, nat_tests)

    not_yet : (d n : ℕ) → d ≡ suc n → nat_le d n ≡ false
    not_yet d n h = grind (arith, nat_tests)

    now : (d n : ℕ) → d ≡ suc n → nat_le d (suc n) ≡ true
    now d n h = grind (arith, nat_tests)

-- ---- the parts that have all boards of a level

module _ (value : List ℕ → ℤ) (level : ℕ) (parts : List Part) (whole : AreWhole level parts) (few : level ≤ 24) (told : AreTold value parts) where
  -- what is known of the board of this rank, if it is settled
  abbrev known : ℕ → Option (ℤ × ℕ)
  known rank = settled_by (known_at parts rank).status

  -- a settled board of this distance
  abbrev SettledAt : ℕ → Type 0
  SettledAt d = (rank : ℕ) × (v : ℤ) × (rank < size_of level) × (known rank ≡ Some (v, d))

  one_nearer : (d : ℕ) → 1 ≤ d → SettledAt (d + 1) → SettledAt d
  one_nearer d some (rank, v, below, settled) =
      let (p, is, stones, ranked) = board_reached level rank few below in
      let (i, inside, held) = holds level parts whole p is stones in
      let (notes, tallied, hears) = told i no_part inside in
      let part = part_at parts i in
      let on_level = stones ∙ sym (of_level level parts whole i inside) in
      let here : settled_at part (rank_of p) ≡ Some (v, d + 1) =
      ap (λ (c : tally.Cell). settled_by c.status) (sym (known_there level parts whole i inside (rank_of p) held)) ∙ ap known ranked ∙ settled in
      let said = tallied p is on_level held in
      let found = settled_status (cell_at part (rank_of p)).status v (d + 1) here in
      let status = subst (IsStatus value p (notes_for (rank_of p) notes) part.gain) found.1 said.status in
      elim (behind value p (notes_for (rank_of p) notes) part.gain v (d + 1) status.settled) [
        | inl near ↦ absurd (omega (arith, near, some))
        | inr note ↦
            let (q, quiet) = said.quiet note.0 note.1 in
            let next = next_board_is level parts whole p note.0.pit q is stones quiet in
            let (j, inside_j, held_j) = holds level parts whole q next.0 next.1 in
            let (u, e, spread, of) = hears j no_part inside_j p note.0.pit q is on_level held held_j quiet note.0 note.1 refl in
            let same : e ≡ d = omega (arith, of.same_dist, note.2) in
            let there : known (rank_of q) ≡ Some (u, e) = ap (λ (c : tally.Cell). settled_by c.status) (known_there level parts whole j inside_j (rank_of q) held_j) ∙ spread.0 in
            let low = rank_of-below q next.0.pits in
            (rank_of q, u, subst (λ n. rank_of q < size_of n) next.1 low, subst (λ k. known (rank_of q) ≡ Some (u, k)) same there)
      ]

  all_nearer : (n k : ℕ) → 1 ≤ k → SettledAt (n + k) → SettledAt k
  all_nearer zero k some settled = let same : 0 + k ≡ k = omega arith in subst SettledAt same settled
  all_nearer (suc n) k some settled =
      let next : suc n + k ≡ (n + k) + 1 = omega arith in
      all_nearer n k some (one_nearer (n + k) (omega (arith, some)) (subst SettledAt next settled))

  pub known_fits : (rank : ℕ) (v : ℤ) (d : ℕ) → rank < size_of level → known rank ≡ Some (v, d) → d < 2 ^ 32 - 1
  known_fits rank v d below settled =
      let cells = cells_in_all level 0 (size_of level) parts whole in
      let many = as_many (all_cells parts) d (λ k low high. at k low (omega (arith, high)) (d - k) (omega (arith, high))) in
      let all = count_by-le-length (λ (c : Cell). nat_le c.dist d) (all_cells parts) in
      omega (arith, many, all, cells, size_of-grows level 24 few, highest)
    where
      at : (k : ℕ) → 1 ≤ k → k ≤ d → (n : ℕ) → d ≡ n + k → (i : ℕ) × (i < length (all_cells parts)) × ((get_or (all_cells parts) i no_cell).dist ≡ k)
      at k low high n is =
          let (r, u, there, has) = all_nearer n k low (subst SettledAt is (rank, v, below, settled)) in
          let cells = cells_in_all level 0 (size_of level) parts whole in
          (r - 0, omega (arith, cells, there), stored_dist (cell_in 0 (all_cells parts) r) u k has)

  -- no settled distance is the greatest that can be stored
  pub distances_fit : (i : ℕ) → i < length parts → (rank : ℕ) (v : ℤ) (d : ℕ) → InBlock (part_at parts i) rank → settled_at (part_at parts i) rank ≡ Some (v, d) → d < 2 ^ 32 - 1
  distances_fit i inside rank v d held settled =
      let last = (block_at level 0 (size_of level) parts whole i inside).last in
      known_fits rank v d (omega (arith, held.0, held.1, last)) (ap (λ (c : tally.Cell). settled_by c.status) (known_there level parts whole i inside rank held) ∙ settled)

  -- and none of a note of a spread board
  pub notes_fit : (i : ℕ) → i < length parts → (part : Part) (m : Note) → IsSpreadNote (part_at parts i) part m → m.dist < 2 ^ 32 - 1
  notes_fit i inside part m (q, v, d, p, x, spread, held_q, is_q, is_p, stones, held_p, note) =
      let fits = distances_fit i inside (rank_of q) v d held_q spread.0 in
      omega (arith, fits, note.same_dist)
