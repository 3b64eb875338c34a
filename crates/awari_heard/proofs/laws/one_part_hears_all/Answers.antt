use Rattle.awari_heard.proofs.Levels.{one_whole, one_heard, heard_told}
use Rattle.awari_heard.proofs.laws.one_part_hears_all.Goals as goal

pub returns-clause-whole : goal.returns-clause-whole
returns-clause-whole c part whole = one_whole part whole.start whole.all

pub returns-clause-heard : goal.returns-clause-heard
returns-clause-heard c value part notes tallied own = one_heard value part notes tallied own

pub returns-clause-told : goal.returns-clause-told
returns-clause-told c value parts heard = heard_told value parts heard
