-- How the segments of a level go on in a slice, over plain variables.
use Rattle.std.proofs.Common.{◌≡◌, ℕ, ◌<◌, All, List, length, ap, subst, sym, ◌∙◌, arith}
use Rattle.awari_block.specs.Blocks.{Due, due_dist}
use Rattle.awari_block.specs.Each.{EachTo}
use Rattle.awari_block.specs.Part.{Part}
use Rattle.awari_block.specs.declared.stakes.Stake.{Stake}
use Rattle.awari_heard.specs.Level.{no_part, part_at}
use Rattle.awari_heard.proofs.SpreadBoards.{IsInjective}
use Rattle.awari_segments.specs.Each.{GoOn, KeepsBoards, PassesFirst}
use Rattle.awari_segments.specs.Segments.{AreSegments, IsPassed, SettlesPast}
use Rattle.awari_segments.specs.Tellings.{HearsTelling, Telling, Tells}
use Rattle.awari_segments.proofs.Keeping.{go_both, keeps_but, keeps_each, keeps_settled, same_each}
use Rattle.awari_segments.proofs.Opened.{grid_moved, grid_still}
use Rattle.awari_segments.proofs.LoneTurns.{segments_turn}
use Rattle.awari_segments.specs.Slices.{SlicedView, GoesOn}

-- by what is seen of the level before
pub goes_seen : (seen old new : SlicedView) → seen ≡ old → new.level ≡ seen.level → GoOn seen.parts new.parts → GoesOn old new
goes_seen seen old new is level parts = subst (λ (v : SlicedView). GoesOn v new) is (record { level = level; parts = parts })

pub goes_both : (a b c : SlicedView) → GoesOn a b → GoesOn b c → GoesOn a c
goes_both a b c one two = record { level = two.level ∙ one.level; parts = go_both a.parts b.parts c.parts one.parts two.parts }

-- ---- a turn: boards are taken, and all segments hear their notes

module _ (stake : Stake) (span : ℕ) (t : Telling) (old mid new : List Part) (grid : AreSegments stake span old) (tells : Tells stake.level span t old mid) (past : EachTo SettlesPast mid new) where
  taken : EachTo KeepsBoards old mid
  taken = record { many = tells.same.many; each = λ i d few. keeps_but _ _ (tells.same.each i d few) }

  mid_grid : AreSegments stake span mid
  mid_grid = grid_moved stake span stake.gain stake.wave old mid grid (same_each old mid taken) (λ i few. ap (λ (p : Part). p.gain) (tells.same.each i no_part few) ∙ grid.gain i few)
      (λ i few. ap (λ (p : Part). p.wave) (tells.same.each i no_part few) ∙ grid.wave i few)

  pub turn_grid : AreSegments stake span new
  turn_grid = grid_still stake span mid new mid_grid past

  pub turn_keeps : EachTo KeepsBoards old new
  turn_keeps = keeps_each old mid new taken (record { many = past.many; each = λ i d few. keeps_settled _ _ (past.each i d few).settles })

  pub turn_goes : IsInjective → EachTo (HearsTelling span t) mid new → GoOn old new
  turn_goes injective each = record { stays = turn_keeps; heard = λ value. segments_turn value stake span t old mid new injective mid_grid tells each }

  -- a segment that was passed is so still once it heard the notes
  pub turn_first : PassesFirst stake.wave old mid → PassesFirst stake.wave old new
  turn_first first i few before =
      let many = tells.same.many in
      let low : i < length mid = omega (arith, few, many) in
      let at = mid_grid.wave i low in
      let hears = past.each i no_part low in
      let passed : IsPassed (part_at mid i) = subst (λ w. All (λ (f : Due). w < due_dist f) (part_at mid i).fresh) (sym at) (first i few before) in
      subst (λ w. All (λ (f : Due). w < due_dist f) (part_at new i).fresh) (hears.settles.same.wave ∙ at) (hears.passed passed)
