use Rattle.std.proofs.Common.{rules}
use Rattle.awari_owner.proofs.ScannedOwners.{scanned_owner, scanned_whole}
use Rattle.awari_owner.proofs.parts.Part.scan.Goals as goal

pub returns-clause-scanned : goal.returns-clause-scanned
returns-clause-scanned c = scanned_owner _ _ c.args.owners c.args.owner _ _ c.in_ok-part.part (search rules) (search rules) c.in_ok-part.ensures.0 c.in_ok-part.ensures.1

pub returns-clause-whole : goal.returns-clause-whole
returns-clause-whole c = λ one. scanned_whole _ _ c.args.owners c.args.owner _ _ c.in_ok-part.part one c.requires.owner (search rules) (search rules) c.in_ok-part.ensures.0
