use Rattle.std.proofs.Common.{◌≡◌, ◌^◌, ◌∙◌, ℕ, List, sym, subst, subst₂, rules, arith}
use Rattle.std.proofs.lemmas.List.{with_items_is}
use Rattle.awari_block.specs.Part.{Part}
use Rattle.awari_crew.specs.Members.{parts_of}
use Rattle.awari_segments.specs.Tellings.{Tells, telling_of}
use Rattle.awari_crew.proofs.members.Member.speak.Goals as goal

pub take_notes-requires-clause-level : goal.take_notes-requires-clause-level
take_notes-requires-clause-level c =
    let self = c.args.self.now in
    let level : c.deref.result.now ≡ self.level = c.deref.ensures ∙ self.indexed in
    let at_level : self.stake.level ≡ self.level = search rules in
    let low = self.low in
    (at_level ∙ sym level, omega (arith, at_level, low))

pub returns-clause-tells : goal.returns-clause-tells
returns-clause-tells c =
    let self = c.args.self.now in
    let at_level : self.stake.level ≡ self.level = search rules in
    let tells = subst₂ (λ (n : ℕ) (old : List Part). Tells n (2 ^ self.log) (telling_of self.stake c.take_notes.new.row) old c.take_notes.new.segments) at_level c.as_mut_slice-segments.ensures.value c.in_ok-left.ensures.tells in
    let many = tells.same.many in
    let len = self.segments.ok.0 in
    subst (Tells self.level (2 ^ self.log) (telling_of self.stake c.take_notes.new.row) (parts_of self)) (sym (with_items_is self.segments c.take_notes.new.segments (omega (arith, many, len)))) tells
