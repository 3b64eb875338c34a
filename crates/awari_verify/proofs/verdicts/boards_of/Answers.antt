use Rattle.std.proofs.Common.{rules}
use Rattle.awari_verify.proofs.verdicts.boards_of.Goals as goal

pub size-boards-requires : goal.size-boards-requires
size-boards-requires c = search rules

pub returns-then-len-boards-clause-err : goal.returns-then-len-boards-clause-err
returns-then-len-boards-clause-err c = search rules

pub returns-clause-ok : goal.returns-clause-ok
returns-clause-ok c = search rules
