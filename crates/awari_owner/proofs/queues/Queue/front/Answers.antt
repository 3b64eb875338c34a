use Rattle.std.proofs.Common.{◌≡◌, ◌<◌, ◌∷◌, length, get_or, drop, map, ap, sym, rules, ◌∙◌}
use Rattle.std.proofs.lemmas.List.{drop_more}
use Rattle.awari_owner.specs.Queues.{Queue}
use Rattle.awari_owner.proofs.queues.Queue.front.Goals as goal

pub returns-clause-some : goal.returns-clause-some
returns-clause-some c =
    let same : map (λ b. b.items) c.self.inside.batches.items ≡ c.args.self.now.batches = ap (λ (q : Queue). q.batches) c.self.view_is in
    let some : 0 < length c.self.inside.batches.items = search rules in
    let at : c.in_ok-first.first.now ≡ get_or c.self.inside.batches.items 0 c.in_ok-first.first.now = search rules in
    let split : c.self.inside.batches.items ≡ c.in_ok-first.first.now ∷ drop 1 c.self.inside.batches.items =
    drop_more c.self.inside.batches.items 0 c.in_ok-first.first.now some ∙ ap (λ x. x ∷ drop 1 c.self.inside.batches.items) (sym at) in
    let copy : c.in-Ok.batch.items ≡ c.in_ok-first.first.now.items = search rules in
    (map (λ b. b.items) (drop 1 c.self.inside.batches.items), sym same ∙ ap (map (λ b. b.items)) split ∙ ap (λ x. x ∷ map (λ b. b.items) (drop 1 c.self.inside.batches.items)) (sym copy))
