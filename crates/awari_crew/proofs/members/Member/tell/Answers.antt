use Rattle.std.proofs.Common.{◌^◌, ◌∙◌, List, refl, subst}
use Rattle.std.specs.Arc.{arc_value}
use Rattle.awari_block.specs.Each.{EachTo}
use Rattle.awari_block.specs.Part.{Part}
use Rattle.awari_crew.proofs.Keeping.{kept_told}
use Rattle.awari_segments.specs.Tellings.{HearsTelling, telling_of}
use Rattle.awari_segments.proofs.Stages.{kept_items}
use Rattle.awari_crew.proofs.members.Member.tell.Goals as goal

pub returns : goal.returns
returns c =
    let same = c.in_ok-row.ensures.ok in
    let each = subst (λ (old : List Part). EachTo (HearsTelling (2 ^ c.speak.new.self.log) (telling_of c.speak.new.self.stake c.deref.result.now)) old c.hear_rows.new.segments) c.as_mut_slice.ensures.value c.in_ok-hear_rows.ensures.hears in
    kept_told c.args.self.now c.spare_row-row.new.self c.speak.new.self _ c.speak.new.row (arc_value c.in_ok-row.row) c.deref.result.now c.hear_rows.new.segments c.spare_row-row.ensures.0 c.spare_row-row.ensures.1 c.in_ok-left.ensures.rest
    c.in_ok-left.ensures.tells same (c.deref.ensures ∙ same) c.in_ok-send_all.ensures each refl refl refl
    (kept_items (HearsTelling (2 ^ c.speak.new.self.log) (telling_of c.speak.new.self.stake c.deref.result.now)) c.speak.new.self.segments c.hear_rows.new.segments each)
