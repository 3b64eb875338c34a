use Rattle.awari_scan.proofs.Looks.{seen_quiet}
use Rattle.awari_scan.proofs.outlooks.see_quiet.Goals as goal

pub returns : goal.returns
returns c = λ value p q move seen.
    rw c.with-seen.ensures (seen_quiet value p c.args.pit c.args.seen.now.quiet c.args.seen.now.best c.args.seen.now.plans q c.requires move seen)
