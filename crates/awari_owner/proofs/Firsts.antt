-- The first fresh board, and what its spread makes of the part.
use Rattle.std.proofs.Common.{◌≡◌, ℕ, ◌+◌, ◌-◌, ◌^◌, ◌<◌, ◌≤◌, Bool, false, true, inl, inr, if◌then◌else◌, Some, List, ◌∷◌, length, sum, All, refl, sym, ap, subst, subst₂, ◌∙◌, arith, map, ℤ}
use Rattle.std.proofs.lemmas.Int.{ints}
use Rattle.std.proofs.lemmas.Bool.{false≢true}
use Rattle.std.proofs.lemmas.List.Elements.{All-weaker}
use Rattle.std.specs.List.Sorted.{IsPermutation}
use Rattle.awari_board.specs.Rules.{IsBoard}
use Rattle.awari_rank.specs.Rank.{rank_of}
use Rattle.awari_unmove.specs.Predecessors.{IsPredecessors}
use Rattle.awari_block.specs.Notes.{IsQuietMove, IsNoteOf, kind_of}
use Rattle.awari_block.specs.Cells.{IsEither, IsWithin, Fits, FitsBy, is_settled}
use Rattle.awari_block.specs.Blocks.{Due, due_rank, due_dist, cell_in, times_due, is_settled_in, no_cell, IsDueAs, IsBlock, JoinNewlySettled, KeepSettled}
use Rattle.awari_block.specs.Part.{Part, InBlock, IsTallied, part_of, stored_at, settled_at, unspread}
use Rattle.awari_owner.specs.Sound.{SameStake}
use Rattle.awari_scan.specs.Found.{Source}
use Rattle.awari_owner.specs.Spread.{note_to, LeavesFresh, Spreads, SpreadsOne, own_notes, AreNotesOf}
use Rattle.awari_block.specs.declared.cells.Cell.{Cell}
use Rattle.awari_block.specs.declared.cells.Mark.{Mark}
use Rattle.awari_block.specs.declared.cells.Mark.TheVariants.{Ended, Quiet, Capturing, Noted, Settled}
use Rattle.awari_block.specs.declared.notes.Kind.{Kind}
use Rattle.awari_block.specs.declared.stakes.Stake.{Stake}
use Rattle.awari_block.specs.Boards.{Settles, TakesFirst, stake_of}
use Rattle.std.proofs.lemmas.List.Sorted.{length_permutation}
use Rattle.awari_block.proofs.BlockLemmas.{first_due}
use Rattle.awari_block.proofs.Settling.{same_stake}
use Rattle.awari_heard.proofs.SpreadBoards.{IsInjective, settled_value}
use Rattle.awari_owner.proofs.Spreading.{AreSources, sources_of, unheard_sources, joined_but}
use Rattle.awari_owner.proofs.Hearing.{first_spreads, hears_first, note_fits}
use Rattle.awari_heard.specs.Heard.{HearsNotes, with_heard}
use Rattle.awari_owner.proofs.SpreadNotes.{gives_by}

-- no board is fresh before a gain is open that the level has
pub gain_low : (stake : Stake) (c : Cell) → Fits stake c → is_settled c.mark ≡ true → IsEither stake.gain c.score → stake.gain ≤ stake.level
gain_low stake c fits settled either = at c.mark settled fits
  where
    at : (m : Mark) → is_settled m ≡ true → FitsBy m stake.level stake.gain c.score c.dist → stake.gain ≤ stake.level
    at Settled e f = within f.0 either
      where
        within : IsWithin stake.level c.score → IsEither stake.gain c.score → stake.gain ≤ stake.level
        within w (inl up) = let high = w.1 in omega (arith, ints, high, up)
        within w (inr down) = let low = w.0 in omega (arith, ints, low, down)
    at Quiet e f = absurd (false≢true e)
    at Capturing e f = absurd (false≢true e)
    at Noted e f = absurd (false≢true e)
    at Ended e f = absurd (false≢true e)

first_of : (x : Due) (fresh : List Due) (wave rank : ℕ) → due_dist x ≡ wave → rank ≡ due_rank x → All (λ y. (due_dist x ≤ due_dist y) × (due_dist y ≡ due_dist x → due_rank x ≤ due_rank y)) fresh
    → All (λ f. (wave ≤ due_dist f) × (due_dist f ≡ wave → rank ≤ due_rank f)) fresh
first_of x fresh wave rank near at least =
    All-weaker (λ y. (due_dist x ≤ due_dist y) × (due_dist y ≡ due_dist x → due_rank x ≤ due_rank y)) (λ f. (wave ≤ due_dist f) × (due_dist f ≡ wave → rank ≤ due_rank f))
    (λ y later. (let n = later.0 in omega (arith, n, near), λ same. let n = later.1 (same ∙ sym near) in omega (arith, n, at))) fresh least

-- The board is settled at the open gain and wave, and its sources hear of this kind.
pub record IsTold (part : Part) (q : List ℕ) (sources : List Source) (kind : Kind) : Type 0 where
  pub either : IsEither part.gain (stored_at part (rank_of q)).score
  pub settled : settled_at part (rank_of q) ≡ Some ((stored_at part (rank_of q)).score, part.wave)
  pub kinds : kind ≡ kind_of (stored_at part (rank_of q)).score
  pub are : AreSources q sources
  pub level : sum q ≡ part.level

module _ (stake : Stake) (start : ℕ) (cells cells' : List Cell) (fresh rest after : List Due) (f : Due) (cell : Cell) (q : List ℕ) (sources : List Source) (kind : Kind) where
  pub spread_by : IsInjective → ((p : List ℕ) (x : ℕ) (r : List ℕ) → IsBoard p → IsQuietMove p x r → IsBoard r) → ((p : List ℕ) (x : ℕ) (r : List ℕ) → IsBoard p → IsQuietMove p x r → sum r + 0 ≡ sum p)
      → IsBlock stake start cells fresh → IsPermutation (f ∷ rest) fresh → All (λ y. (due_dist f ≤ due_dist y) × (due_dist y ≡ due_dist f → due_rank f ≤ due_rank y)) fresh
      → due_dist f ≡ stake.wave → stake.wave < 2 ^ 32 - 1 → 1 ≤ stake.gain → IsBoard q → sum q ≡ stake.level → rank_of q ≡ due_rank f → cell_in start cells (due_rank f) ≡ cell → kind ≡ kind_of cell.score
      → IsPredecessors q sources → HearsNotes (own_notes (part_of stake start cells rest) kind sources) (part_of stake start cells rest) (part_of stake start cells' after)
      → JoinNewlySettled start cells rest cells' after → KeepSettled start cells cells' → length cells' ≡ length cells
      → Spreads (part_of stake start cells fresh) (part_of stake start cells' after) q sources × IsTold (part_of stake start cells fresh) q sources kind
  spread_by injective boards stones sound moved least wave near_wave one is level ranked was kinds predecessors told joined stays len = (
    record {
      board = is;
      stones = level;
      first = record { fresh = often; inside = inside; near = near; first = first_of f fresh stake.wave (rank_of q) wave ranked least };
      once = few;
      opened = gain_low stake (cell_in start cells (due_rank f)) (sound.fit (due_rank f - start) no_cell due.1) due.4 due.2.valued;
      valued = either;
      near = near_wave;
      predecessors = predecessors;
      leaves = leaves;
      told = λ value notes own tallied.
          subst (λ (k : Kind). IsTallied value new (with_heard (own_notes old k sources) notes)) same
          (told value notes (unheard_sources old kind notes q score stake.wave sources injective own are (subst (λ (k : Kind). AreNotesOf q score stake.wave sources (map (note_to old k) sources)) (sym same) fits) level inside often) tallied);
      becomes = becomes;
      gives = gives;
      hears = λ notes own. hears_first old new notes q sources (kind_of (stored_at old (rank_of q)).score) (stored_at old (rank_of q)).score stake.wave injective are
          (λ p x r board quiet. (boards p x r board quiet, omega (arith, stones p x r board quiet))) becomes fits own;
    },
    record { either = either; settled = settled; kinds = same; are = are; level = level },
  )
    where
      old : Part
      old = part_of stake start cells fresh

      new : Part
      new = part_of stake start cells' after

      due : (start ≤ due_rank f) × (due_rank f - start < length cells) × IsDueAs stake f (cell_in start cells (due_rank f)) × (0 < times_due fresh (due_rank f))
          × (is_settled (cell_in start cells (due_rank f)).mark ≡ true)
      due = first_due stake start cells fresh rest f sound moved

      are : AreSources q sources
      are = sources_of q sources (λ p x board quiet. stones p x q board quiet) predecessors

      inside : InBlock old (rank_of q)
      inside = subst (InBlock old) (sym ranked) (due.0, due.1)

      often : 0 < times_due fresh (rank_of q)
      often = subst (λ r. 0 < times_due fresh r) (sym ranked) due.3

      near : (stored_at old (rank_of q)).dist ≡ stake.wave
      near = subst (λ r. (cell_in start cells r).dist ≡ stake.wave) (sym ranked) (due.2.near ∙ wave)

      either : IsEither stake.gain (stored_at old (rank_of q)).score
      either = subst (λ r. IsEither stake.gain (cell_in start cells r).score) (sym ranked) due.2.valued

      settled : settled_at old (rank_of q) ≡ Some ((stored_at old (rank_of q)).score, stake.wave)
      settled = settled_value (stored_at old (rank_of q)) (subst (λ r. is_settled (cell_in start cells r).mark ≡ true) (sym ranked) due.4) ∙ ap (λ d. Some ((stored_at old (rank_of q)).score, d)) near

      few : times_due fresh (rank_of q) ≤ 1
      few = let most = sound.settled (rank_of q) in at_most (is_settled_in start cells (rank_of q)) most
        where
          at_most : (b : Bool) → times_due fresh (rank_of q) ≤ (if b then 1 else 0) → times_due fresh (rank_of q) ≤ 1
          at_most true h = h
          at_most false h = omega (arith, h)

      same : kind ≡ kind_of (stored_at old (rank_of q)).score
      same = kinds ∙ ap (λ (d : Cell). kind_of d.score) (sym was ∙ ap (cell_in start cells) (sym ranked))

      leaves : LeavesFresh old new (rank_of q)
      leaves = subst (LeavesFresh old new) (sym ranked) (joined_but start start cells cells' fresh rest after f moved joined)

      becomes : SpreadsOne old new q (stored_at old (rank_of q)).score stake.wave
      becomes = first_spreads old new q (stored_at old (rank_of q)).score is level
          (settled_value (stored_at old (rank_of q)) (subst (λ r. is_settled (cell_in start cells r).mark ≡ true) (sym ranked) due.4) ∙ ap (λ d. Some ((stored_at old (rank_of q)).score, d)) near)
          inside few refl refl len stays leaves

      gives : (y : Source) → IsQuietMove y.0 y.1 q → sum y.0 ≡ stake.level → IsNoteOf q (stored_at old (rank_of q)).score stake.wave y.0 y.1 (note_to old (kind_of (stored_at old (rank_of q)).score) y)
      gives y quiet st = note_fits old q (stored_at old (rank_of q)).score y one (subst (λ r. IsEither stake.gain (cell_in start cells r).score) (sym ranked) due.2.valued) st quiet

      score : ℤ
      score = (stored_at old (rank_of q)).score

      fits : AreNotesOf q score stake.wave sources (map (note_to old (kind_of score)) sources)
      fits = gives_by old q score (kind_of score) sources gives are.each level

-- ---- the same of a part whose first fresh board is taken and then told of

module _ (old taken new : Part) (rank : ℕ) (takes : TakesFirst old taken rank) (settles : Settles taken new) where
  -- only the fresh boards differ before
  pub taken_settles : Settles (record old { fresh = taken.fresh }) new
  taken_settles = subst (λ (t : Part). Settles t new) takes.rest settles

  -- the part stands where it did
  pub taken_place : SameStake old new
  taken_place = let same = taken_settles.same in record {
    level = record { level = same.level; gain = same.gain; wave = same.wave; start = same.start };
    long = taken_settles.size;
    stays = taken_settles.stays;
  }

  at_stake : part_of (stake_of old) old.start new.cells new.fresh ≡ new
  at_stake = same_stake (record old { fresh = taken.fresh }) new taken_settles.same

  pub fewer_unspread : unspread new + 1 ≡ unspread old
  fewer_unspread =
      let fewer = length_permutation ((old.wave, rank) ∷ taken.fresh) old.fresh takes.moved in
      let kept = taken_settles.unspread in
      omega (arith, fewer, kept)

  pub spread_first : (cell : Cell) (q : List ℕ) (sources : List Source) (kind : Kind) → IsInjective
      → ((p : List ℕ) (x : ℕ) (r : List ℕ) → IsBoard p → IsQuietMove p x r → IsBoard r) → ((p : List ℕ) (x : ℕ) (r : List ℕ) → IsBoard p → IsQuietMove p x r → sum r + 0 ≡ sum p)
      → old.wave < 2 ^ 32 - 1 → 1 ≤ old.gain → IsBoard q → sum q ≡ old.level → rank_of q ≡ rank → cell ≡ stored_at taken rank → kind ≡ kind_of cell.score
      → IsPredecessors q sources → HearsNotes (own_notes taken kind sources) taken new
      → Spreads old new q sources × IsTold old q sources kind
  spread_first cell q sources kind injective boards stones near one is level ranked was kinds predecessors told =
      subst (λ (n : Part). Spreads old n q sources × IsTold old q sources kind) at_stake
      (spread_by (stake_of old) old.start old.cells new.cells old.fresh taken.fresh new.fresh (old.wave, rank) cell q sources kind injective boards stones takes.sound takes.moved takes.first
      refl near one is level ranked (sym (subst (λ (t : Part). cell ≡ stored_at t rank) takes.rest was)) kinds predecessors
      (subst₂ (λ (t n : Part). HearsNotes (own_notes t kind sources) t n) takes.rest (sym at_stake) told)
      taken_settles.joins taken_settles.stays taken_settles.size)

-- the open gain is one that the level has
pub taken_low : (old taken : Part) (rank : ℕ) → TakesFirst old taken rank → taken.gain ≤ taken.level
taken_low old taken rank takes =
    subst (λ (t : Part). t.gain ≤ t.level) (sym takes.rest)
    (let due = first_due (stake_of old) old.start old.cells old.fresh taken.fresh (old.wave, rank) takes.sound takes.moved in
    gain_low (stake_of old) (stored_at old rank) (takes.sound.fit (rank - old.start) no_cell due.1) due.4 due.2.valued)
