use Rattle.awari_levels.proofs.WishLaws.{wished_before}
use Rattle.awari_levels.proofs.verifying.run_verify.Goals as goal

pub returns-clause-verified : goal.returns-clause-verified
returns-clause-verified g c = λ done. (
  c.in-Ok.stored.shelf,
  c.in-Ok.stored.digest,
  c.in-Ok.ensures.stored,
  wished_before c.args.query.levels (g.F.Folder.state c.args.folder.now).stands (g.F.Folder.state c.load_watched.new.folder).stands c.in-Ok.stored.shelf c.in-Ok.ensures.reads.unchanged.stands
      (c.in-Ok-has_wished_levels.ensures.wished c.if-not-has_levels.false),
  c.has_wished_digest-has_digest.ensures (c.status_of.ensures.written.0 done),
  c.print_stored.ensures c.if-not-print_stored.false,
)
