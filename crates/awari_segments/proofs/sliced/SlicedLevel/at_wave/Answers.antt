use Rattle.std.proofs.Common.{◌^◌, ◌≡◌, ap, refl, sym, subst}
use Rattle.std.specs.Vec.{with_items}
use Rattle.awari_block.specs.Each.{EachTo}
use Rattle.awari_block.specs.Part.{Part}
use Rattle.awari_heard.specs.Level.{AreWhole}
use Rattle.awari_segments.specs.Each.{GoOn, OpensWave, SameFresh}
use Rattle.awari_segments.specs.Segments.{AreSegments}
use Rattle.awari_segments.proofs.Keeping.{go_none, keeps_waved}
use Rattle.awari_segments.proofs.Opened.{waved_grid, waved_heard, waved_same, whole_still}
use Rattle.awari_segments.proofs.Stages.{kept_items}
use Rattle.awari_segments.specs.Slices.{SlicedView}
use Rattle.awari_segments.proofs.Going.{goes_seen}
use Rattle.awari_segments.proofs.sliced.SlicedLevel.at_wave.Goals as goal

pub returns-then-dist-self-clause-goes_on : goal.returns-then-dist-self-clause-goes_on
returns-then-dist-self-clause-goes_on c = record { level = refl; parts = go_none c.args.self.parts }

pub returns-then-dist-self-clause-fresh : goal.returns-then-dist-self-clause-fresh
returns-then-dist-self-clause-fresh c = record { many = refl; each = λ i d few. refl }

pub invariant_of-self : goal.invariant_of-self
invariant_of-self c =
    let d = c.self.inside in
    let before = c.self.invariant in
    let new = c.open_wave.new.segments in
    let opened : EachTo (OpensWave c.args.dist) d.segments.items new = subst (λ l. EachTo (OpensWave c.args.dist) l new) c.as_mut_slice.ensures.value c.in_ok-open_wave.ensures in
    let items : (with_items d.segments new).items ≡ new = kept_items (OpensWave c.args.dist) d.segments new opened in
    record {
      low = before.low;
      opened = before.opened;
      short = before.short;
      numbers = before.numbers;
      grid = subst (AreSegments (record d.stake { wave = c.args.dist }) (2 ^ d.log)) (sym items) (waved_grid d.stake (2 ^ d.log) c.args.dist d.segments.items new before.grid opened);
      whole = subst (AreWhole d.stake.level) (sym items) (whole_still d.stake.level d.segments.items new (waved_same c.args.dist d.segments.items new opened) before.whole);
      indexed = before.indexed;
    }

pub returns-clause-goes_on : goal.returns-clause-goes_on
returns-clause-goes_on c =
    let d = c.self.inside in
    let new = c.open_wave.new.segments in
    let opened : EachTo (OpensWave c.args.dist) d.segments.items new = subst (λ l. EachTo (OpensWave c.args.dist) l new) c.as_mut_slice.ensures.value c.in_ok-open_wave.ensures in
    let items : (with_items d.segments new).items ≡ new = kept_items (OpensWave c.args.dist) d.segments new opened in
    let go_on : GoOn d.segments.items new = record { stays = keeps_waved c.args.dist d.segments.items new opened; heard = λ value. waved_heard value c.args.dist d.segments.items new opened } in
    goes_seen _ _ _ c.self.view_is refl (subst (GoOn d.segments.items) (sym items) go_on)

pub returns-clause-fresh : goal.returns-clause-fresh
returns-clause-fresh c =
    let d = c.self.inside in
    let new = c.open_wave.new.segments in
    let opened : EachTo (OpensWave c.args.dist) d.segments.items new = subst (λ l. EachTo (OpensWave c.args.dist) l new) c.as_mut_slice.ensures.value c.in_ok-open_wave.ensures in
    let items : (with_items d.segments new).items ≡ new = kept_items (OpensWave c.args.dist) d.segments new opened in
    subst (λ (v : SlicedView). EachTo SameFresh v.parts (with_items d.segments new).items) c.self.view_is
    (subst (EachTo SameFresh d.segments.items) (sym items) (record { many = opened.many; each = λ i e few. ap (λ (p : Part). p.fresh) (opened.each i e few).opens }))
