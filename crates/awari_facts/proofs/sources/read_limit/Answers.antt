use Rattle.awari_facts.proofs.SourceLaws.{unread_limit}
use Rattle.awari_facts.proofs.sources.read_limit.Goals as goal

pub returns-in-Files-clause-fault : goal.returns-in-Files-clause-fault
returns-in-Files-clause-fault g c = unread_limit c.args.source c.in-Files.field-0 c.args.level _ c.limit_in_header.result c.in-Files.is c.limit_in_header.ensures.fault
