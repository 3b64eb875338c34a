use Rattle.std.proofs.Common.{◌^◌, ◌≡◌, List, refl, sym, subst, arith}
use Rattle.std.specs.Vec.{with_items}
use Rattle.awari_block.specs.Part.{Part}
use Rattle.awari_heard.specs.Level.{AreWhole}
use Rattle.awari_segments.specs.Each.{GoOn, KeepsBoards, PassesFirst}
use Rattle.awari_segments.specs.Segments.{AreSegments}
use Rattle.awari_segments.specs.Tellings.{Tells, telling_of}
use Rattle.awari_segments.proofs.Keeping.{same_each}
use Rattle.awari_segments.proofs.Opened.{whole_still}
use Rattle.awari_segments.proofs.Stages.{kept_items}
use Rattle.awari_segments.specs.Slices.{SlicedView}
use Rattle.awari_segments.proofs.Going.{goes_seen, turn_first, turn_goes, turn_grid, turn_keeps}
use Rattle.awari_segments.proofs.sliced.SlicedLevel.spread_open.Goals as goal

pub invariant_of-result : goal.invariant_of-result
invariant_of-result c =
    let d = c.self.inside in
    let before = c.self.invariant in
    let span = 2 ^ d.log in
    let t = telling_of d.stake c.take_notes.new.row in
    let mid = c.take_notes.new.segments in
    let new = c.hear_rows.new.segments in
    let tells : Tells d.stake.level span t d.segments.items mid = subst (λ (old : List Part). Tells d.stake.level span t old mid) c.as_mut_slice-all.ensures.value c.in_ok-take_notes.ensures.tells in
    let keeps = turn_keeps d.stake span t d.segments.items mid new before.grid tells c.in_ok-hear_rows.ensures.settles in
    let items : (with_items d.segments new).items ≡ new = kept_items KeepsBoards d.segments new keeps in
    record {
      low = before.low;
      opened = before.opened;
      short = before.short;
      numbers = before.numbers;
      grid = subst (AreSegments d.stake span) (sym items) (turn_grid d.stake span t d.segments.items mid new before.grid tells c.in_ok-hear_rows.ensures.settles);
      whole = subst (AreWhole d.stake.level) (sym items) (whole_still d.stake.level d.segments.items new (same_each d.segments.items new keeps) before.whole);
      indexed = before.indexed;
    }

pub returns-clause-goes_on : goal.returns-clause-goes_on
returns-clause-goes_on c =
    let d = c.self.inside in
    let span = 2 ^ d.log in
    let t = telling_of d.stake c.take_notes.new.row in
    let mid = c.take_notes.new.segments in
    let new = c.hear_rows.new.segments in
    let tells : Tells d.stake.level span t d.segments.items mid = subst (λ (old : List Part). Tells d.stake.level span t old mid) c.as_mut_slice-all.ensures.value c.in_ok-take_notes.ensures.tells in
    let go_on : GoOn d.segments.items new = turn_goes d.stake span t d.segments.items mid new c.self.invariant.grid tells c.in_ok-hear_rows.ensures.settles c.ranks_tell_boards_apart.ensures c.in_ok-hear_rows.ensures.hears in
    let items : (with_items d.segments new).items ≡ new = kept_items KeepsBoards d.segments new go_on.stays in
    goes_seen _ _ _ c.self.view_is refl (subst (GoOn d.segments.items) (sym items) go_on)

pub returns-clause-first : goal.returns-clause-first
returns-clause-first c =
    let d = c.self.inside in
    let span = 2 ^ d.log in
    let t = telling_of d.stake c.take_notes.new.row in
    let mid = c.take_notes.new.segments in
    let new = c.hear_rows.new.segments in
    let tells : Tells d.stake.level span t d.segments.items mid = subst (λ (old : List Part). Tells d.stake.level span t old mid) c.as_mut_slice-all.ensures.value c.in_ok-take_notes.ensures.tells in
    let keeps = turn_keeps d.stake span t d.segments.items mid new c.self.invariant.grid tells c.in_ok-hear_rows.ensures.settles in
    let items : (with_items d.segments new).items ≡ new = kept_items KeepsBoards d.segments new keeps in
    let most = c.max.ensures in
    let passes : PassesFirst d.stake.wave d.segments.items mid = subst (λ (old : List Part). PassesFirst d.stake.wave old mid) c.as_mut_slice-all.ensures.value (c.in_ok-take_notes.ensures.first (omega (arith, most))) in
    let first : PassesFirst d.stake.wave d.segments.items new = turn_first d.stake span t d.segments.items mid new c.self.invariant.grid tells c.in_ok-hear_rows.ensures.settles passes in
    subst (λ (v : SlicedView). PassesFirst v.wave v.parts (with_items d.segments new).items) c.self.view_is (subst (PassesFirst d.stake.wave d.segments.items) (sym items) first)
