use Rattle.std.proofs.Common.{◌≡◌, ◌<◌, ◌+◌, ◌++◌, ◌∷◌, [], ℕ, List, length, get_or, ap, sym, subst, ◌∙◌, arith}
use Rattle.std.proofs.lemmas.List.{length_push}
use Rattle.awari_table.specs.Images.{table_of}
use Rattle.awari_heard.specs.Level.{no_part}
use Rattle.awari_owner.specs.Sound.{IsScannedOwner}
use Rattle.awari_block.specs.Part.{Part}
use Rattle.awari_core.proofs.Rounds.{more_push}
use Rattle.awari_core.proofs.openings.scanned_parts.Goals as goal

pub loop-owner-preserved : goal.loop-owner-preserved
loop-owner-preserved c =
    let items : List Part = c.loop-owner.parts.items in
    let pushed : items ++ c.in-Ok.part ∷ [] ≡ c.push.new.self.items = sym c.in_ok-push.ensures.items in
    let before = c.loop-owner.invariant in
    record {
      count = ap (λ (l : List Part). length l) (sym pushed) ∙ (let one = length_push items c.in-Ok.part in let n = before.count in omega (arith, one, n));
      scanned = subst (λ (l : List Part). (k : ℕ) → k < c.loop-owner.owner + 1 → IsScannedOwner (table_of c.args.shelf.now).value (length c.args.shelf.now) c.args.owners k (get_or l k no_part)) pushed
          (more_push (λ k (p : Part). IsScannedOwner (table_of c.args.shelf.now).value (length c.args.shelf.now) c.args.owners k p) items no_part c.in-Ok.part c.loop-owner.owner before.count before.scanned
          c.in-Ok.ensures.scanned);
    }
