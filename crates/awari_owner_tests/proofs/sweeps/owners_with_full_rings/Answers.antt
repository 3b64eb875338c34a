use Rattle.std.proofs.Common.{subst, sym}
use Rattle.awari_lines.specs.Rings.{IsGrid}
use Rattle.awari_phase.specs.Owners.{all_ends}
use Rattle.awari_phase.proofs.Worked.{written_back}
use Rattle.awari_owner_tests.proofs.sweeps.owners_with_full_rings.Goals as goal

pub returns : goal.returns
returns g c =
    let back = written_back c.in_ok-owners.owners.items c.as_mut_slice.result.now c.fill_rings.new.owners c.in_ok-owners.owners.len c.in_ok-owners.owners.ok.0 c.as_mut_slice.ensures.value c.fill_rings.auto.owners in
    subst (λ l. IsGrid (all_ends l)) (sym back) c.fill_rings.ensures
