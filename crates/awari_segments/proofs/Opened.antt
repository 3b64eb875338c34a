-- What the opening of a gain and of a distance makes of the parts of a level.
use Rattle.std.proofs.Common.{◌≡◌, ℕ, suc, ◌+◌, ◌/◌, ◌<◌, ◌≤◌, List, [], ◌∷◌, length, get_or, ℤ, refl, sym, ap, subst, subst₂, ◌∙◌, arith}
use Rattle.std.proofs.lemmas.List.{get_or_default}
use Rattle.awari_rank.specs.Rank.{rank_of, size_of}
use Rattle.awari_block.specs.Blocks.{KeepSettled}
use Rattle.awari_block.specs.Part.{InBlock, IsTallied, JoinsFresh, Part, cell_at, notes_for}
use Rattle.awari_block.specs.declared.notes.Note.{Note}
use Rattle.awari_block.specs.declared.stakes.Stake.{Stake}
use Rattle.awari_block.proofs.Settling.{same_stake, settles_none}
use Rattle.awari_heard.specs.Level.{AreBlocks, AreHeard, AreWhole, no_part, part_at}
use Rattle.awari_heard.specs.Heard.{Hears, SameBlock}
use Rattle.awari_heard.proofs.Gains.{opened}
use Rattle.awari_heard.proofs.SpreadBoards.{spread_before, spread_stays}
use Rattle.awari_heard.proofs.PlannedTallies.{wave_tally}
use Rattle.awari_segments.specs.Each.{OpensGain, OpensWave}
use Rattle.awari_block.specs.Each.{EachTo}
use Rattle.awari_segments.specs.Segments.{AreSegments, SettlesPast}
use Rattle.awari_block.specs.Boards.{OpensBoards, Settles, at_gain}

-- The block is the same. Settled boards keep value and distance, and those that are newly settled join the fresh ones.
pub record StaysSpread (old new : Part) : Type 0 where
  pub block : SameBlock old new
  pub stays : KeepSettled old.start old.cells new.cells
  pub joins : JoinsFresh old new

inside_old : (old new : Part) → SameBlock old new → (r : ℕ) → InBlock new r → InBlock old r
inside_old old new same r in_r = let a = in_r.0 in let b = in_r.1 in (omega (arith, a, same.start), omega (arith, b, same.start, same.size))

-- what was heard is what is due still
pub hears_between : (s s' p p' : Part) (notes : List Note) → StaysSpread s s' → StaysSpread p p' → Hears s p notes → Hears s' p' notes
hears_between s s' p p' notes source part hears = record {
  true_notes = λ b x q is stones in_b in_q quiet k has pit.
      let in_s = inside_old s s' source.block (rank_of q) in_q in
      let told = hears.true_notes b x q is (stones ∙ part.block.level) (inside_old p p' part.block (rank_of b) in_b) in_s quiet k has pit in
      (told.0, told.1, spread_stays s s' source.block.start source.stays source.joins (rank_of q) told.0 told.1 in_s.0 told.2, told.3);
  all_notes = λ b x q v d is stones in_b in_q quiet spread.
      let in_s = inside_old s s' source.block (rank_of q) in_q in
      hears.all_notes b x q v d is (stones ∙ part.block.level) (inside_old p p' part.block (rank_of b) in_b) in_s quiet (spread_before s s' source.block.start source.stays source.joins (rank_of q) v d in_s.0 spread);
}

-- of all parts, if the cells tell what they told
pub heard_still : (value : List ℕ → ℤ) (old new : List Part) → EachTo StaysSpread old new → ((i : ℕ) → i < length old → (notes : List Note) → IsTallied value (part_at old i) notes → IsTallied value (part_at new i) notes)
    → AreHeard value old → AreHeard value new
heard_still value old new all tells heard j d h =
    let many = all.many in
    let few : j < length old = omega (arith, h, many) in
    let before = heard j no_part few in
    let notes : List Note = before.0 in
    let here : part_at new j ≡ get_or new j d = sym (get_or_default new j d no_part h) in (
      notes,
      subst (λ (p : Part). IsTallied value p notes) here (tells j few notes before.1),
      λ i e k.
          let low : i < length old = omega (arith, k, many) in
          subst₂ (λ (s p : Part). Hears s p notes) (sym (get_or_default new i e no_part k)) here (hears_between (part_at old i) (part_at new i) (part_at old j) (part_at new j) notes (all.each i no_part low) (all.each j no_part few) (before.2 i no_part low)),
    )

-- ---- the same blocks

pub grid_moved : (stake : Stake) (span gain wave : ℕ) (old new : List Part) → AreSegments stake span old → EachTo SameBlock old new → ((i : ℕ) → i < length old → (part_at new i).gain ≡ gain)
    → ((i : ℕ) → i < length old → (part_at new i).wave ≡ wave) → AreSegments (record stake { gain = gain; wave = wave }) span new
grid_moved stake span gain wave old new grid all gains waves = record {
  level = λ i h. (all.each i no_part (few i h)).level ∙ grid.level i (few i h);
  gain = λ i h. gains i (few i h);
  wave = λ i h. waves i (few i h);
  within = λ i h.
      let s = all.each i no_part (few i h) in
      let w = grid.within i (few i h) in
      omega (arith, w, s.start, s.size);
  home = λ rank h.
      let at = grid.home rank h in
      let s = all.each (rank / span) no_part at.0 in
      let many = all.many in
      let a = at.0 in
      let b = at.1.0 in
      let d = at.1.1 in
      ((omega (arith, a, many)), (omega (arith, b, s.start), omega (arith, d, s.start, s.size)));
  only = λ i rank h inside. grid.only i rank (few i h) (inside_old (part_at old i) (part_at new i) (all.each i no_part (few i h)) rank inside);
}
  where
    few : (i : ℕ) → i < length new → i < length old
    few i h = let many = all.many in omega (arith, h, many)

blocks_still : (level low high : ℕ) (old new : List Part) → length new ≡ length old → ((i : ℕ) → i < length old → SameBlock (part_at old i) (part_at new i)) → AreBlocks level low high old → AreBlocks level low high new
blocks_still level low high [] [] many same are = are
blocks_still level low high [] (y ∷ ys) many same are = absurd (omega (arith, many))
blocks_still level low high (x ∷ xs) [] many same are = absurd (omega (arith, many))
blocks_still level low high (x ∷ xs) (y ∷ ys) many same are =
    let first : SameBlock x y = same 0 (omega arith) in
    let rest = blocks_still level (low + length x.cells) high xs ys (omega (arith, many)) (λ i few. same (suc i) (omega (arith, few))) are.1 in
    ((first.level ∙ are.0.0, first.start ∙ are.0.1), subst (λ n. AreBlocks level (low + n) high ys) (sym first.size) rest)

pub whole_still : (level : ℕ) (old new : List Part) → EachTo SameBlock old new → AreWhole level old → AreWhole level new
whole_still level old new all are = blocks_still level 0 (size_of level) old new all.many (λ i h. all.each i no_part h) are

-- ---- a gain is opened

pub gain_spread : (gain : ℕ) (old new : Part) → OpensBoards gain old new → StaysSpread old new
gain_spread gain old new opens = let settles = opens.settles in record {
  block = record { level = settles.same.level; start = settles.same.start; size = settles.size };
  stays = settles.stays;
  joins = settles.joins;
}

pub gain_told : (value : List ℕ → ℤ) (gain : ℕ) (old new : Part) → 1 ≤ gain → old.gain ≡ gain + 1 → OpensBoards gain old new → (notes : List Note) → IsTallied value old notes → IsTallied value new notes
gain_told value gain old new one next opens notes tallied =
    subst (λ (p : Part). IsTallied value p notes) (same_stake (at_gain gain old) new opens.settles.same)
    (opened value notes old new.cells new.fresh gain one (sym next) opens.settles.size (λ k h. opens.cells.inside k h (omega arith) h) tallied)

opened_spread : (gain : ℕ) (old new : List Part) → EachTo (OpensGain gain) old new → EachTo StaysSpread old new
opened_spread gain old new all = record { many = all.many; each = λ i d few. gain_spread gain (get_or old i d) (get_or new i d) (all.each i d few).opens }

pub opened_same : (gain : ℕ) (old new : List Part) → EachTo (OpensGain gain) old new → EachTo SameBlock old new
opened_same gain old new all = record { many = all.many; each = λ i d few. (gain_spread gain (get_or old i d) (get_or new i d) (all.each i d few).opens).block }

pub opened_heard : (value : List ℕ → ℤ) (gain : ℕ) (old new : List Part) → EachTo (OpensGain gain) old new → AreHeard value old → AreHeard value new
opened_heard value gain old new all heard =
    heard_still value old new (opened_spread gain old new all) (λ i few. let opens = all.each i no_part few in gain_told value gain (part_at old i) (part_at new i) opens.positive opens.next opens.opens) heard

pub opened_grid : (stake : Stake) (span gain : ℕ) (old new : List Part) → AreSegments stake span old → EachTo (OpensGain gain) old new → AreSegments (record stake { gain = gain; wave = 0 }) span new
opened_grid stake span gain old new grid all =
    grid_moved stake span gain 0 old new grid (opened_same gain old new all) (λ i few. (all.each i no_part few).opens.settles.same.gain) (λ i few. (all.each i no_part few).opens.settles.same.wave)

-- ---- a distance is opened

pub wave_spread : (dist : ℕ) (old : Part) → StaysSpread old (record old { wave = dist })
wave_spread dist old = let none = settles_none old in record {
  block = record { level = refl; start = refl; size = refl };
  stays = none.stays;
  joins = λ r. refl;
}

pub wave_told : (value : List ℕ → ℤ) (dist : ℕ) (old : Part) → old.wave < dist → (notes : List Note) → IsTallied value old notes → IsTallied value (record old { wave = dist }) notes
wave_told value dist old farther notes tallied p is stones inside =
    wave_tally value (cell_at old (rank_of p)) p (notes_for (rank_of p) notes) old.gain old.wave dist (omega (arith, farther)) (tallied p is stones inside)

waved_spread : (dist : ℕ) (old new : List Part) → EachTo (OpensWave dist) old new → EachTo StaysSpread old new
waved_spread dist old new all = record { many = all.many; each = λ i d few. subst (StaysSpread (get_or old i d)) (sym (all.each i d few).opens) (wave_spread dist (get_or old i d)) }

pub waved_same : (dist : ℕ) (old new : List Part) → EachTo (OpensWave dist) old new → EachTo SameBlock old new
waved_same dist old new all = let spread = waved_spread dist old new all in record { many = all.many; each = λ i d few. (spread.each i d few).block }

pub waved_heard : (value : List ℕ → ℤ) (dist : ℕ) (old new : List Part) → EachTo (OpensWave dist) old new → AreHeard value old → AreHeard value new
waved_heard value dist old new all heard =
    heard_still value old new (waved_spread dist old new all)
    (λ i few notes tallied. let opens = all.each i no_part few in subst (λ (p : Part). IsTallied value p notes) (sym opens.opens) (wave_told value dist (part_at old i) opens.farther notes tallied)) heard

pub waved_grid : (stake : Stake) (span dist : ℕ) (old new : List Part) → AreSegments stake span old → EachTo (OpensWave dist) old new → AreSegments (record stake { wave = dist }) span new
waved_grid stake span dist old new grid all =
    grid_moved stake span stake.gain dist old new grid (waved_same dist old new all) (λ i few. ap (λ (p : Part). p.gain) (all.each i no_part few).opens ∙ grid.gain i few) (λ i few. ap (λ (p : Part). p.wave) (all.each i no_part few).opens)

-- ---- notes are heard

-- the blocks are the same
pub grid_still : (stake : Stake) (span : ℕ) (old new : List Part) → AreSegments stake span old → EachTo SettlesPast old new → AreSegments stake span new
grid_still stake span old new grid all = record {
  level = λ i h. (settled i (few i h)).same.level ∙ grid.level i (few i h);
  gain = λ i h. (settled i (few i h)).same.gain ∙ grid.gain i (few i h);
  wave = λ i h. (settled i (few i h)).same.wave ∙ grid.wave i (few i h);
  within = λ i h.
      let s = settled i (few i h) in
      let w = grid.within i (few i h) in
      omega (arith, w, s.same.start, s.size);
  home = λ rank h.
      let at = grid.home rank h in
      let s = settled (rank / span) at.0 in
      let many = all.many in
      let a = at.0 in
      let b = at.1.0 in
      let d = at.1.1 in
      ((omega (arith, a, many)), (omega (arith, b, s.same.start), omega (arith, d, s.same.start, s.size)));
  only = λ i rank h inside.
      let s = settled i (few i h) in
      let a = inside.0 in
      let b = inside.1 in
      grid.only i rank (few i h) (omega (arith, a, s.same.start), omega (arith, b, s.same.start, s.size));
}
  where
    few : (i : ℕ) → i < length new → i < length old
    few i h = let many = all.many in omega (arith, h, many)

    settled : (i : ℕ) → i < length old → Settles (part_at old i) (part_at new i)
    settled i h = (all.each i no_part h).settles
