use Rattle.awari_rank.specs.Rank.{size_of}
use Rattle.awari_owner.proofs.Levels.{scanned_whole}
use Rattle.awari_heard.proofs.Levels.{blocks_still}
use Rattle.awari_owner.proofs.laws.scanned_parts_are_whole.Goals as goal

pub returns-clause-whole : goal.returns-clause-whole
returns-clause-whole c level owners parts some many each = scanned_whole level owners parts some many each

pub returns-clause-still : goal.returns-clause-still
returns-clause-still c level old new same whole = blocks_still level 0 (size_of level) old new same whole
