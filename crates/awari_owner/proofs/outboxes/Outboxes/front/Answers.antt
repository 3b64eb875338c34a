use Rattle.std.proofs.Common.{◌≡◌, ◌∷◌, List, IfSome, arith, subst}
use Rattle.std.proofs.lemmas.Grind.{common_steps}
use Rattle.std.proofs.lemmas.Option.{IfSome_then}
use Rattle.awari_block.specs.declared.notes.Note.{Note}
use Rattle.awari_owner.specs.Outboxes.{AreOutboxes, queue_to}
use Rattle.awari_owner.proofs.Sending.{first_batch}
use Rattle.awari_owner.proofs.outboxes.Outboxes.front.Goals as goal

pub returns-clause-batch : goal.returns-clause-batch
returns-clause-batch c =
    let some : IfSome c.front.result (λ batch. (rest : List (List Note)) × (queue_to c.args.self.now c.args.to ≡ batch.items ∷ rest)) = grind (arith, common_steps) in
    IfSome_then c.front.result some (λ batch found. first_batch c.args.self.now c.args.to batch.items found.0 (subst AreOutboxes c.self.view_is c.self.invariant) found.1)
