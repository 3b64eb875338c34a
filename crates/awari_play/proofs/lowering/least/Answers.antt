use Rattle.std.proofs.Common.{◌∙◌, ap, sym, subst, length, List}
use Rattle.awari_rank.specs.Rank.{size_of}
use Rattle.awari_table.specs.declared.images.Entry.{Entry}
use Rattle.awari_play.specs.Least.{NoFarther}
use Rattle.awari_play.specs.Lowering.{AreAbove}
use Rattle.awari_play.proofs.Planned.{next_image}
use Rattle.awari_play.proofs.Lowerings.{above_image, least_consistent}
use Rattle.awari_play.proofs.lowering.least.Goals as goal

pub lower-requires-clause-above : goal.lower-requires-clause-above
lower-requires-clause-above c = subst (AreAbove c.args.shelf.now) (sym c.in_ok-entries.ensures) (above_image c.args.shelf.now c.args.image c.requires.1)

pub returns-clause-planned : goal.returns-clause-planned
returns-clause-planned c =
    let sized = c.lower.ensures.nearer.size ∙ ap (λ (es : List Entry). length es) c.in_ok-entries.ensures ∙ c.requires.1.sized ∙ ap size_of c.requires.1.next in
    (next_image c.args.shelf.now _ c.lower.new.entries.items sized c.planned_image-least.ensures).planned

pub returns-clause-consistent : goal.returns-clause-consistent
returns-clause-consistent c =
    let sized = c.lower.ensures.nearer.size ∙ ap (λ (es : List Entry). length es) c.in_ok-entries.ensures ∙ c.requires.1.sized ∙ ap size_of c.requires.1.next in
    least_consistent c.args.shelf.now c.args.image _ c.lower.new.entries.items c.requires.1
    (subst (λ (es : List Entry). NoFarther es c.lower.new.entries.items) c.in_ok-entries.ensures c.lower.ensures.nearer)
    c.lower.ensures.above c.lower.ensures.below c.planned_image-least.ensures.same (next_image c.args.shelf.now _ c.lower.new.entries.items sized c.planned_image-least.ensures)
