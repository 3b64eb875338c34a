use Rattle.std.proofs.Common.{ℕ, List, subst}
use Rattle.awari_board.specs.MoveFault.{IsDue}
use Rattle.awari_exports.proofs.boards.awari_play.Goals as goal

pub returns-in-Err-clause-refused : goal.returns-in-Err-clause-refused
returns-in-Err-clause-refused c = λ _ _. (c.in-Err.fault, subst (λ (p : List ℕ). IsDue p c.args.pit c.in-Err.fault) c.in-Ok.ensures.board.0 c.in-Err.ensures.refused, c.number-in-Err.ensures)
