use Rattle.std.proofs.Common.{◌≡◌, true, subst, sym, ap, ◌∙◌, rules, arith}
use Rattle.awari_block.specs.Boards.{Settles}
use Rattle.awari_block.specs.Tally.{has_pit}
use Rattle.awari_block.specs.Part.{Part, stored_at, IsExpected}
use Rattle.awari_owner.specs.Sound.{TakesNote}
use Rattle.awari_block.specs.declared.cells.Cell.{Cell}
use Rattle.awari_owner.proofs.Hearing.{hears_kept}
use Rattle.awari_heard.proofs.Taking.{added_heard, expected_takeable}
use Rattle.awari_owner.proofs.parts.Part.take.Goals as goal

pub invariant_of-self : goal.invariant_of-self
invariant_of-self c =
    let settles : Settles c.self.inside.boards c.hear.new.self = c.in-Ok.ensures.settles in
    record {
      opened = (let now = settles.same.gain in let was = c.self.invariant.opened in omega (arith, now, was));
      fresh = settles.fresh c.self.invariant.fresh;
      index = c.self.invariant.index ∙ sym settles.same.level;
    }

pub returns-clause-taken : goal.returns-clause-taken
returns-clause-taken c =
    let old : Part = c.self.inside.boards in
    let new : Part = c.hear.new.self in
    let settles : Settles old new = c.in-Ok.ensures.settles in
    let due : IsExpected old c.args.note = subst (λ (o : Part). IsExpected o c.args.note) (sym c.self.view_is) (search rules) in
    let silent : has_pit (stored_at old c.args.note.target).left c.args.note.pit ≡ true = ap (λ (d : Cell). has_pit d.left c.args.note.pit) (sym c.cell.ensures.stored) ∙ sym c.if-not-has_left.ensures in
    let takes : TakesNote c.args.note old new = record {
      settles = settles;
      cells = c.in-Ok.ensures.hears.cells;
      tallied = λ value notes. added_heard value notes old new c.args.note c.self.invariant.opened (expected_takeable old c.args.note due) silent settles.same c.in-Ok.ensures.hears;
      own = λ notes own. hears_kept old new notes c.args.note own due.leaves settles.same.level settles.same.start settles.size settles.stays settles.joins;
    } in
    subst (λ (o : Part). TakesNote c.args.note o new) c.self.view_is takes
