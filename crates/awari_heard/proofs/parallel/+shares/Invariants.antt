use Rattle.awari_heard.proofs.parallel.+shares.Given as goal

abbrev pub decreases-join+arg2 : goal.decreases-join+arg2
decreases-join+arg2 g l = l.fewer

abbrev pub decreases-entries_in_shares : goal.decreases-entries_in_shares
decreases-entries_in_shares g l = l.threads
