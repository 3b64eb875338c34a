use Rattle.awari_phase.specs.Owners.{AllGrown}
use Rattle.awari_phase.proofs.Worked.{written_back}
use Rattle.awari_owner_tests.proofs.Wholes.{whole_grown}
use Rattle.awari_owner_tests.proofs.apart.after_three_rounds.Goals as goal

pub returns-clause-whole : goal.returns-clause-whole
returns-clause-whole g c =
    let back = written_back c.in_ok-owners.owners.items c.as_mut_slice.result.now c.open_waves_1.new.owners c.in_ok-owners.owners.len c.in_ok-owners.owners.ok.0 c.as_mut_slice.ensures.value c.open_waves_1.auto.owners in
    let opened : AllGrown c.in_ok-owners.owners.items c.open_waves_1.new.owners = rw c.as_mut_slice.ensures.value at c.open_waves_1.ensures in
    whole_grown 1 _ _ (rw back at c.in_ok-owners-2.ensures) (whole_grown 1 _ _ opened c.in_ok-owners.ensures.whole)
