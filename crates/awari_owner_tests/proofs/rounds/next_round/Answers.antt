use Rattle.awari_phase.proofs.Gaining.{all_grown_kept}
use Rattle.awari_owner_tests.proofs.rounds.next_round.Goals as goal

pub returns : goal.returns
returns g c =
    all_grown_kept c.args.owners.items c.in_ok-owners.owners.items c.in_ok-owners.ensures.rounds.kept c.requires
