use Rattle.std.proofs.Common.{◌^◌, ◌∙◌, List, Option, Ok, ap, refl, subst, subst₂}
use Rattle.std.specs.Prelude.{IfSome}
use Rattle.awari_block.specs.Each.{EachTo}
use Rattle.awari_block.specs.Part.{Part}
use Rattle.awari_crew.proofs.Keeping.{kept_heard, kept_looked}
use Rattle.awari_crew.specs.Members.{Receives, told_by}
use Rattle.awari_segments.specs.Tellings.{HearsTelling, telling_of}
use Rattle.awari_crew.specs.declared.letters.Letter.{Letter}
use Rattle.awari_segments.proofs.Stages.{kept_items}
use Rattle.awari_segments.specs.declared.rows.Row.{Row}
use Rattle.awari_crew.proofs.members.Member.listen_to.Goals as goal

pub returns-in_ok-hear_rows-in-Some : goal.returns-in_ok-hear_rows-in-Some
returns-in_ok-hear_rows-in-Some c =
    let self = c.args.self.now in
    let letter = c.in-Some.letter in
    let came = subst (λ (found : Option Letter). IfSome found (λ it. Receives c.args.from it self.ends c.look_for_letter.new.ends)) c.in-Some.is c.in_ok-found.ensures.some in
    let each = subst₂ (λ (r : Row) (old : List Part). EachTo (HearsTelling (2 ^ self.log) (telling_of letter.stake r)) old c.hear_rows.new.segments) c.deref.ensures c.as_mut_slice-segments.ensures.value c.in_ok-hear_rows-in-Some.ensures.hears in
    kept_heard self _ c.args.from letter c.hear_rows.new.segments refl refl refl c.requires came (kept_items (HearsTelling (2 ^ self.log) (told_by letter)) self.segments c.hear_rows.new.segments each) each

pub returns-in-None : goal.returns-in-None
returns-in-None c = kept_looked c.args.self.now _ refl refl refl (c.look_for_letter.ensures.none (c.in_ok-found.was ∙ ap Ok c.in-None.is)) refl
