use Rattle.std.proofs.Common.{◌%◌, sym, ap, ◌∙◌}
use Rattle.awari_block.specs.Tally.{has_pit}
use Rattle.awari_block.specs.declared.cells.Cell.{Cell}
use Rattle.awari_segments.proofs.Surely.{surely_one}
use Rattle.awari_segments.proofs.hearing.hear_unheard.Goals as goal

pub returns-clause-hears : goal.returns-clause-hears
returns-clause-hears c =
    surely_one c.args.segment.now c.hear_next.new.segment c.args.kind c.args.code c.in_ok-hear_next.ensures.range c.requires.code
    (ap (λ (d : Cell). has_pit d.left (c.args.code % 8)) (sym c.cell.ensures.stored) ∙ sym c.has_left.ensures ∙ c.if-not-has_left.false) c.in_ok-hear_next.ensures.settles.settles.same c.in_ok-hear_next.ensures.hears
