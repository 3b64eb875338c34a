use Rattle.std.proofs.Common.{subst, sym}
use Rattle.awari_streams.specs.Counted.{inner_of}
use Rattle.awari_levels.specs.Texts.{AppendsText}
use Rattle.awari_levels.proofs.TextLaws.{one_text}
use Rattle.awari_levels.proofs.texts.write_text.Goals as goal

pub returns : goal.returns
returns g c =
    subst (λ level. AppendsText c.args.shelf.now level (g.W.Write.contents (inner_of c.args.output.now)) (g.W.Write.contents (inner_of c.write_level_text.new.writer))) (sym c.in-Some.is)
    (one_text c.args.shelf.now c.in-Some.number c.level.result.now.value _ _ c.levels-levels.ensures.shelf c.level.ensures
    (rw c.deref.ensures at c.in_ok-write_level_text.ensures.image) (rw c.deref.ensures at c.in_ok-write_level_text.ensures.written))
