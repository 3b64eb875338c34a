use Rattle.std.proofs.Common.{ℕ, List, subst}
use Rattle.awari_exports.specs.Files.{TellsEntry}
use Rattle.awari_exports.proofs.files.awari_probe_file.Goals as goal

pub returns-clause-entry : goal.returns-clause-entry
returns-clause-entry c = λ _. subst (λ (p : List ℕ). TellsEntry c.args.bytes.now p c.entry_at-found.result) c.in-Ok.ensures.board.0 c.entry_at-found.ensures
