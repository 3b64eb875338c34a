use Rattle.std.proofs.Common.{rules, List, ap, sym, subst, ◌∙◌}
use Rattle.awari_table.specs.Images.{table_of}
use Rattle.awari_table.specs.Shelves.{Consistent}
use Rattle.awari_block.specs.Part.{Part}
use Rattle.awari_heard.specs.Level.{AreHeard}
use Rattle.awari_core.specs.Core.{Core, IsAllQuiet}
use Rattle.awari_core.proofs.Effects.{core_of}
use Rattle.awari_core.proofs.cores.Core.finish.Goals as goal

pub returns-clause-consistent : goal.returns-clause-consistent
returns-clause-consistent c =
    let old = core_of c.self.inside in
    let quiet : IsAllQuiet old = subst IsAllQuiet (sym c.self.view_is) (c.quiet.ensures.quiet.0 (search rules)) in
    let heard = subst (λ (parts : List Part). AreHeard (table_of old.shelf).value parts) (sym c.deref.ensures.value) (c.sound_cores_are_told.ensures.heard old c.self.invariant quiet.1) in
    subst (λ (o : Core). Consistent o.shelf c.in_ok-image.image) c.self.view_is (c.in_ok-image.ensures.consistent heard)

pub returns-clause-closed : goal.returns-clause-closed
returns-clause-closed c = (ap (λ (o : Core). o.gain) (sym c.self.view_is) ∙ c.if-self-ne0.false, c.quiet.ensures.quiet.0 (search rules))
