use Rattle.std.proofs.Common.{refl, arith}
use Rattle.std.proofs.lemmas.Fmt.{decimal_digit}
use Rattle.awari_table.proofs.laws.worked_examples.Goals as goal

pub returns-clause-header : goal.returns-clause-header
returns-clause-header c = rw (decimal_digit 2 (omega arith), decimal_digit 9 (omega arith)) refl

pub returns-clause-lost : goal.returns-clause-lost
returns-clause-lost c = rw (decimal_digit 1 (omega arith), decimal_digit 5 (omega arith)) refl

pub returns-clause-ended : goal.returns-clause-ended
returns-clause-ended c = rw (decimal_digit 0 (omega arith)) refl

pub returns-clause-capture : goal.returns-clause-capture
returns-clause-capture c = refl

pub returns-clause-quiet_move : goal.returns-clause-quiet_move
returns-clause-quiet_move c = refl
