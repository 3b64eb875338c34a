use Rattle.std.proofs.Common.{◌^◌, ◌≡◌, ap, sym, subst, ◌∙◌}
use Rattle.awari_segments.specs.Slices.{SlicedView}
use Rattle.awari_segments.specs.Each.{NoneAreFresh}
use Rattle.awari_segments.proofs.Stages.{all_closed}
use Rattle.awari_segments.proofs.sliced.SlicedLevel.finish.Goals as goal

pub closed_all-requires : goal.closed_all-requires
closed_all-requires c =
    let d = c.self.inside in
    let last : d.stake.gain ≡ 1 = ap (λ (v : SlicedView). v.gain) c.self.view_is ∙ c.requires.closed.0 in
    let idle = subst (λ (v : SlicedView). NoneAreFresh v.parts) (sym c.self.view_is) c.requires.closed.1 in
    all_closed d.stake (2 ^ d.log) d.segments.items c.self.invariant.grid last idle
