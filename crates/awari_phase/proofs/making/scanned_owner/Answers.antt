use Rattle.std.proofs.Common.{◌≡◌, [], All, List, length, refl, sym, subst, ◌∙◌}
use Rattle.std.proofs.lemmas.List.Elements.{All-replicate}
use Rattle.awari_table.specs.Images.{table_of}
use Rattle.awari_owner.specs.Outboxes.{Outboxes}
use Rattle.awari_block.specs.Part.{Part}
use Rattle.awari_owner.specs.Sound.{IsScannedOwner}
use Rattle.awari_block.specs.declared.notes.Note.{Note}
use Rattle.awari_phase.proofs.making.scanned_owner.Goals as goal

pub returns : goal.returns
returns g c =
    let part : c.in-Ok.part ≡ c.new-2.result.part = sym c.new-2.ensures.part in
    let boxes = sym (c.new-2.ensures.outboxes ∙ c.in_ok-outboxes.ensures) in
    record {
      ends = c.new-2.ensures.ends;
      part = subst (λ (p : Part). IsScannedOwner (table_of c.args.shelf.now).value (length c.args.shelf.now) c.args.owners c.args.ends.owner p) part
          (subst (λ i. IsScannedOwner (table_of c.args.shelf.now).value (length c.args.shelf.now) c.args.owners i c.in-Ok.part) c.owner-number.ensures c.in-Ok.ensures.scanned);
      sent = subst (λ (o : Outboxes). All (λ (q : List (List Note)). q ≡ []) o.queues) boxes (All-replicate (λ (q : List (List Note)). q ≡ []) c.args.owners [] refl);
    }
