use Rattle.awari_table.proofs.TextLaws.{due_once, due_image}
use Rattle.awari_table.proofs.laws.one_text_fault_is_due.Goals as goal

pub returns-clause-one : goal.returns-clause-one
returns-clause-one c = due_once

pub returns-clause-none : goal.returns-clause-none
returns-clause-none c = due_image
