use Rattle.std.proofs.Common.{◌≡◌, ◌<◌, ◌-◌, ◌+◌, ◌∷◌, ◌++◌, ℕ, zero, suc, List, [], Bool, IsTrue, false, length, get_or, set, map, ap, sym, subst, refl, rules, arith, ◌∙◌, deque_capacity}
use Rattle.std.proofs.lemmas.List.{length-map}
use Rattle.awari_owner.specs.Queues.{Queue, spare, room_of}
use Rattle.awari_block.specs.declared.notes.Note.{Note}
use Rattle.awari_owner.specs.Outboxes.{with_note}
use Rattle.awari_owner.proofs.Queueing.{put_last, put_new, open_last, some_batch}
use Rattle.awari_owner.proofs.queues.Queue.put.Goals as goal

pub push-requires : goal.push-requires
push-requires c =
    let q : List (List Note) = map (λ b. b.items) c.self.inside.batches.items in
    let same : q ≡ c.args.self.now.batches = ap (λ (q : Queue). q.batches) c.self.view_is in
    let some : 0 < spare q = subst (λ b. 0 < spare b) (sym same) (c.has_open_batch.ensures.0 (search rules)) in
    let long : length q ≡ length c.self.inside.batches.items = length-map c.self.inside.batches.items (λ b. b.items) in
    let many = some_batch q some in
    let at : c.index_mut.result.now ≡ get_or c.self.inside.batches.items (length c.self.inside.batches.items - 1) c.index_mut.result.now = search rules in
    let spares : spare q ≡ 32 - length c.index_mut.result.now.items = open_last (λ b. b.items) c.self.inside.batches.items c.index_mut.result.now (omega (arith, many, long)) at in
    let less : length c.index_mut.result.now.items < 32 = omega (arith, spares, some) in
    (omega arith, less)

pub returns-then-has_open_batch-clause-notes : goal.returns-then-has_open_batch-clause-notes
returns-then-has_open_batch-clause-notes c =
    let q : List (List Note) = map (λ b. b.items) c.self.inside.batches.items in
    let same : q ≡ c.args.self.now.batches = ap (λ (q : Queue). q.batches) c.self.view_is in
    let some : 0 < spare q = subst (λ b. 0 < spare b) (sym same) (c.has_open_batch.ensures.0 (search rules)) in
    let at : c.index_mut.result.now ≡ get_or c.self.inside.batches.items (length c.self.inside.batches.items - 1) c.index_mut.result.now = search rules in
    let last : c.len-last.result ≡ length c.self.inside.batches.items = search rules in
    let put = put_last (λ b. b.items) c.self.inside.batches.items (deque_capacity c.self.inside.batches) c.args.note c.index_mut.result.now c.push.new.self some at c.push.ensures.items in
    ap (λ k. map (λ b. b.items) (set c.self.inside.batches.items (k - 1) c.push.new.self)) last ∙ put.0 ∙ ap (λ b. with_note b c.args.note) same

pub returns-then-has_open_batch-clause-room : goal.returns-then-has_open_batch-clause-room
returns-then-has_open_batch-clause-room c =
    let q : List (List Note) = map (λ b. b.items) c.self.inside.batches.items in
    let same : q ≡ c.args.self.now.batches = ap (λ (q : Queue). q.batches) c.self.view_is in
    let room : room_of (deque_capacity c.self.inside.batches) q ≡ c.args.self.now.room = ap (λ (q : Queue). q.room) c.self.view_is in
    let some : 0 < spare q = subst (λ b. 0 < spare b) (sym same) (c.has_open_batch.ensures.0 (search rules)) in
    let at : c.index_mut.result.now ≡ get_or c.self.inside.batches.items (length c.self.inside.batches.items - 1) c.index_mut.result.now = search rules in
    let last : c.len-last.result ≡ length c.self.inside.batches.items = search rules in
    let put = put_last (λ b. b.items) c.self.inside.batches.items (deque_capacity c.self.inside.batches) c.args.note c.index_mut.result.now c.push.new.self some at c.push.ensures.items in
    ap (λ k. room_of (deque_capacity c.self.inside.batches) (map (λ b. b.items) (set c.self.inside.batches.items (k - 1) c.push.new.self)) + 1) last ∙ put.1 ∙ room

none_spare : (s : ℕ) (b : Bool) → b ≡ false → (0 < s → IsTrue b) → s ≡ 0
none_spare zero b e h = refl
none_spare (suc s) b e h = let t = h (omega arith) in absurd (grind arith)

pub returns-clause-notes : goal.returns-clause-notes
returns-clause-notes c =
    let q : List (List Note) = map (λ b. b.items) c.self.inside.batches.items in
    let same : q ≡ c.args.self.now.batches = ap (λ (q : Queue). q.batches) c.self.view_is in
    let room : room_of (deque_capacity c.self.inside.batches) q ≡ c.args.self.now.room = ap (λ (q : Queue). q.room) c.self.view_is in
    let none : spare q ≡ 0 = ap spare same ∙ none_spare (spare c.args.self.now.batches) c.has_open_batch.result c.if-has_open_batch.false c.has_open_batch.ensures.1 in
    let put = put_new (λ b. b.items) c.self.inside.batches.items (deque_capacity c.self.inside.batches) c.args.note c.push-2.new.self none (search rules) (omega (arith, room, c.requires)) in
    let items : c.push_back.new.self.items ≡ c.self.inside.batches.items ++ c.push-2.new.self ∷ [] = search rules in
    ap (map (λ b. b.items)) items ∙ put.0 ∙ ap (λ b. with_note b c.args.note) same

pub returns-clause-room : goal.returns-clause-room
returns-clause-room c =
    let q : List (List Note) = map (λ b. b.items) c.self.inside.batches.items in
    let same : q ≡ c.args.self.now.batches = ap (λ (q : Queue). q.batches) c.self.view_is in
    let room : room_of (deque_capacity c.self.inside.batches) q ≡ c.args.self.now.room = ap (λ (q : Queue). q.room) c.self.view_is in
    let none : spare q ≡ 0 = ap spare same ∙ none_spare (spare c.args.self.now.batches) c.has_open_batch.result c.if-has_open_batch.false c.has_open_batch.ensures.1 in
    let put = put_new (λ b. b.items) c.self.inside.batches.items (deque_capacity c.self.inside.batches) c.args.note c.push-2.new.self none (search rules) (omega (arith, room, c.requires)) in
    let items : c.push_back.new.self.items ≡ c.self.inside.batches.items ++ c.push-2.new.self ∷ [] = search rules in
    let places : deque_capacity c.push_back.new.self ≡ deque_capacity c.self.inside.batches = search (rules, put.2) in
    ap (λ k. room_of k (map (λ b. b.items) c.push_back.new.self.items) + 1) places ∙ ap (λ l. room_of (deque_capacity c.self.inside.batches) (map (λ b. b.items) l) + 1) items ∙ put.1 ∙ room
