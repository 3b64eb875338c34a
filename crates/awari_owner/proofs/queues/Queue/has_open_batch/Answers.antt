use Rattle.std.proofs.Common.{◌≡◌, ◌<◌, ◌≤◌, ◌-◌, ◌==◌, ℕ, List, Bool, IsTrue, not, length, get_or, map, ap, sym, rules, arith, ◌∙◌}
use Rattle.std.proofs.lemmas.Bool.Decides.{nat_tests}
use Rattle.awari_owner.specs.Queues.{Queue, spare}
use Rattle.awari_block.specs.declared.notes.Note.{Note}
use Rattle.awari_owner.proofs.Queueing.{open_last}
use Rattle.awari_owner.proofs.queues.Queue.has_open_batch.Goals as goal

not_full : (full : Bool) (n s : ℕ) → full ≡ (n == 32) → n ≤ 32 → s ≡ 32 - n → (IsTrue (not full) → 0 < s) × (0 < s → IsTrue (not full))
not_full full n s is few spares = (λ t. grind (arith, nat_tests), λ some. grind (arith, nat_tests))

pub returns-in-Some : goal.returns-in-Some
returns-in-Some c =
    let q : List (List Note) = map (λ b. b.items) c.self.inside.batches.items in
    let same : q ≡ c.args.self.now.batches = ap (λ (q : Queue). q.batches) c.self.view_is in
    let some : 0 < length c.self.inside.batches.items = search rules in
    let at : c.in-Some.batch.now ≡ get_or c.self.inside.batches.items (length c.self.inside.batches.items - 1) c.in-Some.batch.now = search rules in
    let spares : spare q ≡ 32 - length c.in-Some.batch.now.items = open_last (λ b. b.items) c.self.inside.batches.items c.in-Some.batch.now some at in
    not_full c.is_full.result (length c.in-Some.batch.now.items) (spare c.args.self.now.batches) c.is_full.ensures.value c.is_full.ensures.fits (ap spare (sym same) ∙ spares)
