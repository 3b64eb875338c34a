use Rattle.std.proofs.Common.{[], List, refl, subst}
use Rattle.awari_block.specs.Each.{EachTo}
use Rattle.awari_block.specs.Part.{Part}
use Rattle.awari_crew.proofs.Keeping.{kept_opened}
use Rattle.awari_segments.specs.Each.{OpensGain}
use Rattle.awari_segments.specs.Tellings.{HearsMore}
use Rattle.awari_segments.proofs.Stages.{kept_items}
use Rattle.awari_segments.proofs.Steps.{all_opened}
use Rattle.awari_crew.proofs.members.Member.open_gain.Goals as goal

pub returns : goal.returns
returns c =
    let each = all_opened c.saturating_sub-gain.result _ _ (subst (λ (old : List Part). EachTo (OpensGain c.saturating_sub-gain.result) old c.open_gain.new.segments) c.as_mut_slice.ensures.value c.in_ok-open_gain.ensures) in
    kept_opened c.args.self.now _ c.open_gain.new.segments refl refl refl refl (kept_items (HearsMore []) c.args.self.now.segments c.open_gain.new.segments each) each
