use Rattle.std.proofs.Common.{◌++◌, refl, rules}
use Rattle.std.proofs.lemmas.Grind.{put_two}
use Rattle.std.proofs.lemmas.List.{get_or_default}
use Rattle.awari_members.specs.Members.{member_text, said}
use Rattle.awari_members.proofs.MemberLaws.{marked-on}
use Rattle.awari_members.proofs.lines.MarkedDisplay.fmt.Goals as goal

pub loop-member-preserved : goal.loop-member-preserved
loop-member-preserved g c = record {
  text = search rules;
  written = λ plain.
      let so_far = c.loop-member.invariant.written plain in
      let inside = c.loop-member-test.true in (
        so_far.0 ++ (c.loop-member.mark.now ++ member_text c.args.self.now.1 (said c.member-item.result)),
        put_two _ _ _ _ _ _ _ so_far.1 (search rules) refl,
        marked-on c.args.self.now.1 c.loop-member.mark.now _ c.args.self.now.0.now c.loop-member.member-index c.member-item.result so_far.0 _ inside (search (rules, get_or_default)) c.mark_of-mark.ensures.mark so_far.2,
      );
}
