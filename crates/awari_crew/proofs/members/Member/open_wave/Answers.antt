use Rattle.std.proofs.Common.{[], List, refl, subst}
use Rattle.awari_block.specs.Each.{EachTo}
use Rattle.awari_block.specs.Part.{Part}
use Rattle.awari_crew.proofs.Keeping.{kept_opened}
use Rattle.awari_segments.specs.Each.{OpensWave}
use Rattle.awari_segments.specs.Tellings.{HearsMore}
use Rattle.awari_segments.proofs.Stages.{kept_items}
use Rattle.awari_segments.proofs.Steps.{all_waved}
use Rattle.awari_crew.proofs.members.Member.open_wave.Goals as goal

pub returns : goal.returns
returns c =
    let each = all_waved c.args.dist _ _ (subst (λ (old : List Part). EachTo (OpensWave c.args.dist) old c.open_wave.new.segments) c.as_mut_slice.ensures.value c.in_ok-open_wave.ensures) in
    kept_opened c.args.self.now _ c.open_wave.new.segments refl refl refl refl (kept_items (HearsMore []) c.args.self.now.segments c.open_wave.new.segments each) each
