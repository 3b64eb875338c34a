use Rattle.std.proofs.Common.{◌^◌, IfSome, List, ℕ, sym, subst, subst₂}
use Rattle.awari_heard.specs.Level.{AreHeard}
use Rattle.awari_table.specs.Images.{table_of}
use Rattle.awari_table.specs.declared.images.Image.{Image}
use Rattle.awari_crew.specs.Homes.{AllComeHome, AreHome}
use Rattle.awari_crew.proofs.Homing.{all_home}
use Rattle.awari_crew.proofs.crews.closed_by_crew.Goals as goal

pub gather-requires-clause-grid : goal.gather-requires-clause-grid
gather-requires-clause-grid g c =
    (all_home c.in_ok-task.task.shelf c.in_ok-task.task.log c.in_ok-all.all.items c.in-Some.homes.items c.in_ok-all.ensures (subst (λ homes. IfSome homes (λ homes. AllComeHome c.in_ok-all.all.items homes.items)) c.in-Some.is c.in_ok-homes.ensures.home)).grid

pub returns-clause-heard : goal.returns-clause-heard
returns-clause-heard g c =
    let shelf = c.in_ok-task.task.shelf in
    let home = all_home shelf c.in_ok-task.task.log c.in_ok-all.all.items c.in-Some.homes.items c.in_ok-all.ensures (subst (λ homes. IfSome homes (λ homes. AllComeHome c.in_ok-all.all.items homes.items)) c.in-Some.is c.in_ok-homes.ensures.home) in
    let here = subst₂ (λ (level log : ℕ). AreHome (table_of shelf).value level (2 ^ log) c.in-Some.homes.items) (sym c.level.ensures.level) (sym c.log.ensures.log) home in
    subst (λ (s : List Image). AreHeard (table_of s).value c.in_ok-parts.parts.items) c.in_ok-task.ensures (c.in_ok-parts.ensures.heard (table_of shelf).value here)
