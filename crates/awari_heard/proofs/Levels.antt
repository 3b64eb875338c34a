-- The parts of a level, one block after another: the cell of a board, and what all of them heard.
use Rattle.std.specs.List.{AllZip}
use Rattle.std.proofs.Common.{length, ◌≡◌, ℕ, zero, suc, ◌+◌, ◌-◌, ◌<◌, ◌≤◌, inl, inr, List, [], ◌∷◌, get_or, sum, ℤ, All, refl, sym, ap, subst, ◌∙◌, arith, length-append}
use Rattle.std.proofs.Math.ListN.{get_or-append}
use Rattle.std.proofs.Math.Seq.{get_or-append_right}
use Rattle.std.proofs.lemmas.Bool.{cases_lt}
use Rattle.std.proofs.lemmas.List.Elements.{All-cons, All-nil}
use Rattle.awari_board.specs.Rules.{IsBoard}
use Rattle.awari_board.proofs.Keeping.{IsBoard-next, sum-from_IsMove}
use Rattle.awari_rank.specs.Rank.{rank_of, size_of}
use Rattle.awari_rank.proofs.Ranking.{rank_of-below}
use Rattle.awari_block.specs.Notes.{IsQuietMove}
use Rattle.awari_block.specs.Tally as tally
use Rattle.awari_block.specs.Cells.{view_of}
use Rattle.awari_block.specs.Blocks.{Due, no_cell, times_due}
use Rattle.awari_block.specs.Part.{Part, InBlock, IsTallied, cell_at, notes_for, settled_by, IsClosed}
use Rattle.awari_heard.specs.Heard.{Hears, HearsOwn, IsSpread, SameBlock}
use Rattle.awari_heard.specs.Level.{AreBlocks, AreWhole, all_cells, known_at, AreHeard, AreTold, no_part, part_at}
use Rattle.awari_heard.specs.Finish.{IsQuietAt, IsRightAt}
use Rattle.awari_block.specs.declared.notes.Note.{Note}
use Rattle.awari_heard.proofs.RightCells.{quiet_right}

-- ---- blocks one after another

pub blocks_in_order : (level low high : ℕ) (parts : List Part) → AreBlocks level low high parts → low ≤ high
blocks_in_order level low high [] blocks = omega (arith, blocks)
blocks_in_order level low high (part ∷ parts) blocks = let rest = blocks_in_order level (low + length part.cells) high parts blocks.1 in omega (arith, rest)

-- the cells are as many as the ranks
pub cells_in_all : (level low high : ℕ) (parts : List Part) → AreBlocks level low high parts → low + length (all_cells parts) ≡ high
cells_in_all level low high [] blocks = omega (arith, blocks)
cells_in_all level low high (part ∷ parts) blocks =
    let rest = cells_in_all level (low + length part.cells) high parts blocks.1 in
    omega (arith, rest, length-append part.cells (all_cells parts))

-- a block is of the level, and between the first and the last rank
pub record IsWithinLevel (level low high : ℕ) (part : Part) : Type 0 where
  pub stones : part.level ≡ level
  pub first : low ≤ part.start
  pub last : part.start + length part.cells ≤ high

pub block_at : (level low high : ℕ) (parts : List Part) → AreBlocks level low high parts → (i : ℕ) → i < length parts → IsWithinLevel level low high (part_at parts i)
block_at level low high [] blocks i inside = absurd (omega (arith, inside))
block_at level low high (part ∷ parts) blocks zero inside =
    let rest = blocks_in_order level (low + length part.cells) high parts blocks.1 in
    record { stones = blocks.0.0; first = omega (arith, blocks.0.1); last = omega (arith, rest, blocks.0.1) }
block_at level low high (part ∷ parts) blocks (suc i) inside =
    let rest = block_at level (low + length part.cells) high parts blocks.1 i (omega (arith, inside)) in
    record { stones = rest.stones; first = omega (arith, rest.first); last = rest.last }

-- the cell of a board is that of the part that has it
pub cell_there : (level low high : ℕ) (parts : List Part) → AreBlocks level low high parts → (i : ℕ) → i < length parts → (r : ℕ) → InBlock (part_at parts i) r
    → get_or (all_cells parts) (r - low) no_cell ≡ get_or (part_at parts i).cells (r - (part_at parts i).start) no_cell
cell_there level low high [] blocks i inside r held = absurd (omega (arith, inside))
cell_there level low high (part ∷ parts) blocks zero inside r held =
    let same : r - low ≡ r - part.start = omega (arith, blocks.0.1) in
    get_or-append part.cells (all_cells parts) no_cell (r - low) (omega (arith, held.1, same)) ∙ ap (λ n. get_or part.cells n no_cell) same
cell_there level low high (part ∷ parts) blocks (suc i) inside r held =
    let after = block_at level (low + length part.cells) high parts blocks.1 i (omega (arith, inside)) in
    let past : length part.cells ≤ r - low = omega (arith, after.first, held.0) in
    let same : r - low - length part.cells ≡ r - (low + length part.cells) = omega arith in
    get_or-append_right part.cells (all_cells parts) (r - low) no_cell past ∙ ap (λ n. get_or (all_cells parts) n no_cell) same
    ∙ cell_there level (low + length part.cells) high parts blocks.1 i (omega (arith, inside)) r held

-- some part has each board
pub holder : (level low high : ℕ) (parts : List Part) → AreBlocks level low high parts → (r : ℕ) → low ≤ r → r < high → (i : ℕ) × (i < length parts) × InBlock (part_at parts i) r
holder level low high [] blocks r above below = absurd (omega (arith, blocks, above, below))
holder level low high (part ∷ parts) blocks r above below = elim (cases_lt r (low + length part.cells)) [
  | inl here ↦ (0, omega arith, (omega (arith, blocks.0.1, above), omega (arith, blocks.0.1, above, here)))
  | inr after ↦ let rest = holder level (low + length part.cells) high parts blocks.1 r after below in (suc rest.0, omega (arith, rest.1), rest.2)
]

-- and no two have one
pub one_holder : (level low high : ℕ) (parts : List Part) → AreBlocks level low high parts → (i j : ℕ) → i < length parts → j < length parts → (r : ℕ)
    → InBlock (part_at parts i) r → InBlock (part_at parts j) r → i ≡ j
one_holder level low high [] blocks i j in_i in_j r a b = absurd (omega (arith, in_i))
one_holder level low high (part ∷ parts) blocks zero zero in_i in_j r a b = refl
one_holder level low high (part ∷ parts) blocks zero (suc j) in_i in_j r a b =
    let after = block_at level (low + length part.cells) high parts blocks.1 j (omega (arith, in_j)) in
    absurd (omega (arith, after.first, blocks.0.1, a.0, a.1, b.0))
one_holder level low high (part ∷ parts) blocks (suc i) zero in_i in_j r a b =
    let after = block_at level (low + length part.cells) high parts blocks.1 i (omega (arith, in_i)) in
    absurd (omega (arith, after.first, blocks.0.1, b.0, b.1, a.0))
one_holder level low high (part ∷ parts) blocks (suc i) (suc j) in_i in_j r a b =
    ap suc (one_holder level (low + length part.cells) high parts blocks.1 i j (omega (arith, in_i)) (omega (arith, in_j)) r a b)

-- and they stay so where each part keeps its block
pub blocks_still : (level low high : ℕ) (old new : List Part) → AllZip SameBlock old new → AreBlocks level low high old → AreBlocks level low high new
blocks_still level low high [] [] same blocks = blocks
blocks_still level low high [] (new ∷ after) same blocks = absurd same
blocks_still level low high (old ∷ before) [] same blocks = absurd same
blocks_still level low high (old ∷ before) (new ∷ after) same blocks = (
  (same.0.level ∙ blocks.0.0, same.0.start ∙ blocks.0.1),
  subst (λ n. AreBlocks level (low + n) high after) (sym same.0.size) (blocks_still level (low + length old.cells) high before after same.1 blocks.1),
)

-- ---- the parts that have all boards of a level

module _ (level : ℕ) (parts : List Part) (whole : AreWhole level parts) where
  pub of_level : (i : ℕ) → i < length parts → (part_at parts i).level ≡ level
  of_level i inside = (block_at level 0 (size_of level) parts whole i inside).stones

  -- the part that has a board
  pub holds : (p : List ℕ) → IsBoard p → sum p ≡ level → (i : ℕ) × (i < length parts) × InBlock (part_at parts i) (rank_of p)
  holds p is stones =
      let low = rank_of-below p is.pits in
      holder level 0 (size_of level) parts whole (rank_of p) (omega arith) (subst (λ n. rank_of p < size_of n) stones low)

  pub known_there : (i : ℕ) → i < length parts → (r : ℕ) → InBlock (part_at parts i) r → known_at parts r ≡ cell_at (part_at parts i) r
  known_there i inside r held = ap view_of (cell_there level 0 (size_of level) parts whole i inside r held)

  pub next_board_is : (p : List ℕ) (x : ℕ) (q : List ℕ) → IsBoard p → sum p ≡ level → IsQuietMove p x q → IsBoard q × (sum q ≡ level)
  next_board_is p x q is stones quiet =
      let kept = sum-from_IsMove p x 0 q is.pits quiet in
      (IsBoard-next p x 0 q is quiet, omega (arith, kept, stones))

  module _ (value : List ℕ → ℤ) (closed : All IsClosed parts) (heard : AreHeard value parts) where
    pub quiet_at : (p : List ℕ) → IsBoard p → sum p ≡ level → (notes : List Note) × IsQuietAt value (λ q. known_at parts (rank_of q)) p notes
    quiet_at p is stones =
        let (i, inside, held) = holds p is stones in
        let (notes, tallied, hears) = heard i no_part inside in
        let here = known_there i inside (rank_of p) held in
        let on_level = stones ∙ sym (of_level i inside) in
        let said = tallied p is on_level held in (
          notes_for (rank_of p) notes,
          record {
            tallied = (
              (part_at parts i).wave,
              subst (λ (c : tally.Cell). tally.IsTally value c p (notes_for (rank_of p) notes) 1 (part_at parts i).wave) (sym here)
                  (subst (λ t. tally.IsTally value (cell_at (part_at parts i) (rank_of p)) p (notes_for (rank_of p) notes) t (part_at parts i).wave) (closed i no_part inside).0 said),
            );
            true_notes = λ m has.
                let (q, quiet) = said.quiet m has in
                let next = next_board_is p m.pit q is stones quiet in
                let (j, inside_j, held_j) = holds q next.0 next.1 in
                let (v, d, spread, note) = (hears j no_part inside_j).true_notes p m.pit q is on_level held held_j quiet m has refl in
                (q, v, d, quiet, ap (λ (c : tally.Cell). settled_by c.status) (known_there j inside_j (rank_of q) held_j) ∙ spread.0, note.gain, note.same_dist);
            all_notes = λ x q v d quiet settled.
                let next = next_board_is p x q is stones quiet in
                let (j, inside_j, held_j) = holds q next.0 next.1 in
                let spread : IsSpread (part_at parts j) (rank_of q) v d = (
                  ap (λ (c : tally.Cell). settled_by c.status) (sym (known_there j inside_j (rank_of q) held_j)) ∙ settled,
                  ap (λ (fs : List Due). times_due fs (rank_of q)) (closed j no_part inside_j).1,
                ) in
                let (m, has, note) = (hears j no_part inside_j).all_notes p x q v d is on_level held held_j quiet spread in
                (m, has, note.pit, note.gain, note.same_dist);
          },
        )

    -- the rules are kept at each board of the level
    pub parts_right : (p : List ℕ) → IsBoard p → sum p ≡ level → IsRightAt value (λ q. known_at parts (rank_of q)) p
    parts_right p is stones = let (notes, quiet) = quiet_at p is stones in quiet_right value (λ q. known_at parts (rank_of q)) p notes quiet

-- ---- what was heard over lines

-- what was heard is true
pub heard_told : (value : List ℕ → ℤ) (parts : List Part) → AreHeard value parts → AreTold value parts
heard_told value parts heard i d inside =
    let (notes, tallied, hears) = heard i d inside in
    (notes, tallied, λ j e within. (hears j e within).true_notes)

-- ---- one part

-- a part that has all boards is the one part of its level
pub one_whole : (part : Part) → part.start ≡ 0 → length part.cells ≡ size_of part.level → AreWhole part.level (part ∷ [])
one_whole part start all = ((refl, start), omega (arith, all))

pub one_heard : (value : List ℕ → ℤ) (part : Part) (notes : List Note) → IsTallied value part notes → HearsOwn part notes → AreHeard value (part ∷ [])
one_heard value part notes tallied own =
    All-cons (λ (p : Part). (ns : List Note) × IsTallied value p ns × All (λ source. Hears source p ns) (part ∷ [])) part []
    (notes, tallied, All-cons (λ (source : Part). Hears source part notes) part [] own (All-nil (λ (source : Part). Hears source part notes)))
    (All-nil (λ (p : Part). (ns : List Note) × IsTallied value p ns × All (λ source. Hears source p ns) (part ∷ [])))
