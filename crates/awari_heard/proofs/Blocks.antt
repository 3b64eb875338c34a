-- The entries of blocks put one after another.
use Rattle.std.proofs.Common.{◌≡◌, ℕ, ◌+◌, ◌-◌, ◌<◌, ◌≤◌, List, [], ◌∷◌, ◌++◌, inl, inr, length, get_or, refl, sym, ap, ◌∙◌, subst, subst₂, arith, sum, take, drop, take-append-drop, zero, suc, append_assoc, length-append}
use Rattle.std.proofs.lemmas.Bool.{cases_lt}
use Rattle.std.proofs.lemmas.List.{take_more, take_all, append-nil, get_or_append_left, get_or-append-add, get_or_push}
use Rattle.awari_block.specs.Part.{Part, InBlock, cell_at}
use Rattle.awari_table.specs.declared.images.Entry.{Entry}
use Rattle.awari_table.specs.Images.{no_entry}
use Rattle.awari_board.specs.Rules.{IsBoard}
use Rattle.awari_rank.specs.Rank.{rank_of, size_of}
use Rattle.awari_heard.specs.Level.{AreBlocks, AreWhole, known_at, part_at}
use Rattle.awari_block.specs.Blocks.{no_cell}
use Rattle.awari_block.specs.Cells.{view_of}
use Rattle.awari_block.specs.Tally as tally
use Rattle.awari_block.specs.declared.cells.Cell.{Cell}
use Rattle.awari_heard.proofs.Levels.{holds, known_there}
use Rattle.awari_heard.specs.Kept.{HasKept, HaveAll}
use Rattle.awari_heard.specs.Filling.{PushesBlock, PutsBlocks}

-- each of these blocks ends at a rank that is not above this
abbrev pub AllBelow : List Part → ℕ → Type 0
AllBelow [] high = Unit {0}
AllBelow (part ∷ parts) high = (part.start + length part.cells ≤ high) × AllBelow parts high

pub below_more : (parts : List Part) (low high : ℕ) → low ≤ high → AllBelow parts low → AllBelow parts high
below_more [] low high order below = tt
below_more (part ∷ parts) low high order below = (omega (arith, order, below.0), below_more parts low high order below.1)

pub below_push : (parts : List Part) (part : Part) (high : ℕ) → AllBelow parts high → part.start + length part.cells ≤ high → AllBelow (parts ++ part ∷ []) high
below_push [] part high below last = (last, tt)
below_push (first ∷ parts) part high below last = (below.0, below_push parts part high below.1 last)

-- what is put behind changes nothing of what was there
pub kept_more : (parts : List Part) (low : ℕ) (old now : List Entry) → AllBelow parts low → ((k : ℕ) → k < low → get_or now k no_entry ≡ get_or old k no_entry) → HaveAll HasKept parts old → HaveAll HasKept parts now
kept_more [] low old now below same has = tt
kept_more (part ∷ parts) low old now below same has = (
  λ rank inside. subst (HasKept (cell_at part rank)) (sym (same rank (omega (arith, inside.0, inside.1, below.0)))) (has.0 rank inside),
  kept_more parts low old now below.1 same has.1,
)

pub kept_push : (parts : List Part) (part : Part) (entries : List Entry) → HaveAll HasKept parts entries
    → ((rank : ℕ) → InBlock part rank → HasKept (cell_at part rank) (get_or entries rank no_entry)) → HaveAll HasKept (parts ++ part ∷ []) entries
kept_push [] part entries has last = (last, tt)
kept_push (first ∷ parts) part entries has last = (has.0, kept_push parts part entries has.1 last)

-- a block that is put where its ranks begin has what its cells keep there
pub block_kept : (part : Part) (old now : List Entry) → part.start ≡ length old → PushesBlock part.cells old now (length part.cells) → (rank : ℕ) → InBlock part rank → HasKept (cell_at part rank) (get_or now rank no_entry)
block_kept part old now here pushed rank inside =
    let at : length old + (rank - part.start) ≡ rank = omega (arith, inside.0, here) in
    subst (λ n. HasKept (cell_at part rank) (get_or now n no_entry)) at (pushed.kept (rank - part.start) inside.1)

-- the entry of one more board
pub push_one : (cells : List Cell) (old now new : List Entry) (count : ℕ) (e : Entry) → PushesBlock cells old now count → new ≡ now ++ e ∷ [] → HasKept (view_of (get_or cells count no_cell)) e
    → PushesBlock cells old new (count + 1)
push_one cells old now new count e before is last = record {
  size = ap (λ (es : List Entry). length es) is ∙ length-append now (e ∷ []) ∙ omega (arith, before.size);
  before = λ k below. ap (λ (es : List Entry). get_or es k no_entry) is ∙ get_or_append_left now (e ∷ []) no_entry k (omega (arith, below, before.size)) ∙ before.before k below;
  kept = λ k below. elim (cases_lt k count) [
    | inl lt ↦
        subst (HasKept (view_of (get_or cells k no_cell)))
        (sym (ap (λ (es : List Entry). get_or es (length old + k) no_entry) is ∙ get_or_append_left now (e ∷ []) no_entry (length old + k) (omega (arith, lt, before.size)))) (before.kept k lt)
    | inr ge ↦
        let last_one : k ≡ count = omega (arith, ge, below) in
        subst (HasKept (view_of (get_or cells k no_cell)))
        (sym (ap (λ (es : List Entry). get_or es (length old + k) no_entry) is ∙ get_or_push now e no_entry (length old + k) (omega (arith, last_one, before.size))))
        (subst (λ n. HasKept (view_of (get_or cells n no_cell)) e) (sym last_one) last)
  ];
}

-- blocks put one after another, and then others
pub puts_then : (front back : List Part) (old mid new : List Entry) → PutsBlocks front old mid → PutsBlocks back mid new → PutsBlocks (front ++ back) old new
puts_then [] back old mid new before more = subst (λ es. PutsBlocks back es new) before more
puts_then (part ∷ front) back old mid new (next, one, rest) more = (next, one, puts_then front back next mid new rest more)

-- and then the next of the parts
pub puts_more : (parts : List Part) (i : ℕ) (part : Part) (old mid new : List Entry) → i < length parts → part ≡ get_or parts i part → PutsBlocks (take i parts) old mid
    → PushesBlock part.cells mid new (length part.cells) → PutsBlocks (take (i + 1) parts) old new
puts_more parts i part old mid new inside is before pushed =
    let more : take (i + 1) parts ≡ take i parts ++ part ∷ [] = take_more parts i part inside ∙ ap (λ p. take i parts ++ p ∷ []) (sym is) in
    subst (λ ps. PutsBlocks ps old new) (sym more) (puts_then (take i parts) (part ∷ []) old mid new before (new, pushed, refl))

pub puts_all : (parts : List Part) (i : ℕ) (old new : List Entry) → length parts ≤ i → PutsBlocks (take i parts) old new → PutsBlocks parts old new
puts_all parts i old new past puts = subst (λ ps. PutsBlocks ps old new) (take_all i parts past) puts

-- a block that is put somewhere is also put there behind others
block_behind : (cells : List Cell) (others old new : List Entry) (count : ℕ) → PushesBlock cells old new count → PushesBlock cells (others ++ old) (others ++ new) count
block_behind cells others old new count pushed =
    let size = pushed.size in
    let before = length-append others old in
    let after = length-append others new in
    record {
      size = omega (arith, size, before, after);
      before = λ k below. elim (cases_lt k (length others)) [
        | inl lt ↦ get_or_append_left others new no_entry k lt ∙ sym (get_or_append_left others old no_entry k lt)
        | inr ge ↦
            let at : length others + (k - length others) ≡ k = omega (arith, ge) in
            let same = pushed.before (k - length others) (omega (arith, below, before, ge)) in
            subst (λ n. get_or (others ++ new) n no_entry ≡ get_or (others ++ old) n no_entry) at
            (get_or-append-add others new (k - length others) no_entry ∙ same ∙ sym (get_or-append-add others old (k - length others) no_entry))
      ];
      kept = λ k below.
          let at : length others + (length old + k) ≡ length (others ++ old) + k = omega (arith, before) in
          subst (HasKept (view_of (get_or cells k no_cell))) (sym (get_or-append-add others new (length old + k) no_entry) ∙ ap (λ n. get_or (others ++ new) n no_entry) at) (pushed.kept k below);
    }

puts_behind : (parts : List Part) (others old new : List Entry) → PutsBlocks parts old new → PutsBlocks parts (others ++ old) (others ++ new)
puts_behind [] others old new puts = ap (λ (es : List Entry). others ++ es) puts
puts_behind (part ∷ parts) others old new (next, pushed, rest) = (others ++ next, block_behind part.cells others old next (length part.cells) pushed, puts_behind parts others next new rest)

-- the entries of the first n blocks, and behind them those of the others, which were made apart
pub puts_joined : (parts front back : List Part) (n : ℕ) (first last new : List Entry) → front ≡ take n parts → back ≡ drop n parts → PutsBlocks front [] first → PutsBlocks back [] last → new ≡ first ++ last → PutsBlocks parts [] new
puts_joined parts front back n first last new is_front is_back puts more joined =
    let all : front ++ back ≡ parts = rw (is_front, is_back) (take-append-drop n parts) in
    let behind = subst₂ (λ (old new : List Entry). PutsBlocks back old new) (append-nil first) (sym joined) (puts_behind back first [] last more) in
    subst (λ (ps : List Part). PutsBlocks ps [] new) all (puts_then front back [] first new puts behind)

-- the blocks of a level that are put one after another have all that their cells keep
put_from : (level low high : ℕ) (done parts : List Part) (old new : List Entry) → low ≡ length old → AllBelow done low → HaveAll HasKept done old → AreBlocks level low high parts → PutsBlocks parts old new
    → (length new ≡ high) × HaveAll HasKept (done ++ parts) new
put_from level low high done [] old new here below has blocks puts =
    (ap (λ (es : List Entry). length es) puts ∙ sym here ∙ blocks, subst (λ ps. HaveAll HasKept ps new) (sym (append-nil done)) (subst (HaveAll HasKept done) (sym puts) has))
put_from level low high done (part ∷ parts) old new here below has (at, blocks) (next, pushed, rest) =
    let end = low + length part.cells in
    let there : end ≡ length next = omega (arith, here, pushed.size) in
    let kept = kept_more done low old next below (λ k lt. pushed.before k (omega (arith, here, lt))) has in
    let more = kept_push done part next kept (block_kept part old next (at.1 ∙ here) pushed) in
    let bound = below_push done part end (below_more done low end (omega arith) below) (omega (arith, at.1)) in
    let (size, all) = put_from level end high (done ++ part ∷ []) parts next new there bound more blocks rest in
    (size, subst (λ ps. HaveAll HasKept ps new) (append_assoc done (part ∷ []) parts) all)

pub puts_whole : (level : ℕ) (parts : List Part) (entries : List Entry) → AreWhole level parts → PutsBlocks parts [] entries → (length entries ≡ size_of level) × HaveAll HasKept parts entries
puts_whole level parts entries whole puts = put_from level 0 (size_of level) [] parts [] entries refl tt tt whole puts

-- what one of the parts has
pub had_there : (Has : tally.Cell → Entry → Type 0) (parts : List Part) (entries : List Entry) → HaveAll Has parts entries → (i : ℕ) → i < length parts → (rank : ℕ) → InBlock (part_at parts i) rank
    → Has (cell_at (part_at parts i) rank) (get_or entries rank no_entry)
had_there Has [] entries has i inside rank held = absurd (omega (arith, inside))
had_there Has (part ∷ parts) entries has zero inside rank held = has.0 rank held
had_there Has (part ∷ parts) entries has (suc i) inside rank held = had_there Has parts entries has.1 i (omega (arith, inside)) rank held

-- what the level has
pub level_has : (Has : tally.Cell → Entry → Type 0) (level : ℕ) (parts : List Part) → AreWhole level parts → (entries : List Entry) → HaveAll Has parts entries → (p : List ℕ) → IsBoard p → sum p ≡ level
    → Has (known_at parts (rank_of p)) (get_or entries (rank_of p) no_entry)
level_has Has level parts whole entries has p is stones =
    let (i, inside, held) = holds level parts whole p is stones in
    subst (λ (c : tally.Cell). Has c (get_or entries (rank_of p) no_entry)) (sym (known_there level parts whole i inside (rank_of p) held))
    (had_there Has parts entries has i inside (rank_of p) held)
