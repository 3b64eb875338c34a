use Rattle.awari_scan.proofs.parallel.+halves.Given as goal

abbrev pub decreases-join_mut+arg2 : goal.decreases-join_mut+arg2
decreases-join_mut+arg2 g l = l.pieces

abbrev pub decreases-join_mut+arg3 : goal.decreases-join_mut+arg3
decreases-join_mut+arg3 g l = l.pieces

abbrev pub decreases-scan_pieces : goal.decreases-scan_pieces
decreases-scan_pieces g l = l.pieces
