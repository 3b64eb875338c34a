use Rattle.awari_facts.proofs.SourceLaws.{entry_there}
use Rattle.awari_facts.specs.Sources.{images_of}
use Rattle.awari_facts.proofs.sources.board_entry.Goals as goal

pub returns : goal.returns
returns c = entry_there (images_of c.args.levels) c.args.board.now _ _ c.entry_on.result c.entry_on.ensures c.stones.ensures.stones c.rank.ensures.rank
