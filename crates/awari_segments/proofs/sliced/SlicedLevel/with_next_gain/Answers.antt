use Rattle.std.proofs.Common.{◌^◌, ◌≡◌, ◌-◌, ◌≤◌, refl, sym, subst, arith, rules}
use Rattle.std.specs.Vec.{with_items}
use Rattle.awari_heard.specs.Level.{AreWhole}
use Rattle.awari_block.specs.Each.{EachTo}
use Rattle.awari_segments.specs.Each.{GoOn, OpensGain}
use Rattle.awari_segments.specs.Segments.{AreSegments}
use Rattle.awari_segments.proofs.Keeping.{keeps_opened}
use Rattle.awari_segments.proofs.Opened.{opened_grid, opened_heard, opened_same, whole_still}
use Rattle.awari_segments.proofs.Stages.{kept_items}
use Rattle.awari_segments.proofs.Going.{goes_seen}
use Rattle.awari_segments.proofs.sliced.SlicedLevel.with_next_gain.Goals as goal

pub invariant_of-self : goal.invariant_of-self
invariant_of-self c =
    let d = c.self.inside in
    let before = c.self.invariant in
    let new = c.open_gain.new.segments in
    let gain = d.stake.gain - 1 in
    let more : 2 ≤ d.stake.gain = search rules in
    let opened : EachTo (OpensGain gain) d.segments.items new = subst (λ l. EachTo (OpensGain gain) l new) c.as_mut_slice.ensures.value c.in_ok-open_gain.ensures in
    let items : (with_items d.segments new).items ≡ new = kept_items (OpensGain gain) d.segments new opened in
    record {
      low = before.low;
      opened = omega (arith, more);
      short = before.short;
      numbers = before.numbers;
      grid = subst (AreSegments (record d.stake { gain = gain; wave = 0 }) (2 ^ d.log)) (sym items) (opened_grid d.stake (2 ^ d.log) gain d.segments.items new before.grid opened);
      whole = subst (AreWhole d.stake.level) (sym items) (whole_still d.stake.level d.segments.items new (opened_same gain d.segments.items new opened) before.whole);
      indexed = before.indexed;
    }

pub returns-clause-goes_on : goal.returns-clause-goes_on
returns-clause-goes_on c =
    let d = c.self.inside in
    let new = c.open_gain.new.segments in
    let gain = d.stake.gain - 1 in
    let opened : EachTo (OpensGain gain) d.segments.items new = subst (λ l. EachTo (OpensGain gain) l new) c.as_mut_slice.ensures.value c.in_ok-open_gain.ensures in
    let items : (with_items d.segments new).items ≡ new = kept_items (OpensGain gain) d.segments new opened in
    let go_on : GoOn d.segments.items new = record { stays = keeps_opened gain d.segments.items new opened; heard = λ value. opened_heard value gain d.segments.items new opened } in
    goes_seen _ _ _ c.self.view_is refl (subst (GoOn d.segments.items) (sym items) go_on)
