use Rattle.std.proofs.Common.{◌<◌, ◌≤◌, List, length, ap, subst, sym, ◌∙◌, rules, arith, vec_len}
use Rattle.awari_owner.specs.Queues.{Queue, batches_of, room_in}
use Rattle.awari_owner.proofs.Sending.{batches_same, reserved_more}
use Rattle.awari_owner.proofs.queues.reserve_others.Goals as goal
use Rattle.awari_owner.proofs.queues.reserve_others.Goals.{then-to-owner+in_ok-reserve, else-to-owner}

pub returns-in_err-reserve-clause-same : goal.returns-in_err-reserve-clause-same
returns-in_err-reserve-clause-same c =
    let high : c.loop-to.to < length c.loop-to.queues.items = search rules in
    batches_same c.loop-to.queues.items c.loop-to.to c.index_mut.result.now c.reserve.new.self high c.index_mut.ensures.value c.reserve.ensures.same ∙ c.loop-to.invariant.same

pub loop-to-preserved : goal.loop-to-preserved
loop-to-preserved c =
    let high : c.loop-to.to < length c.loop-to.queues.items = search rules in
    elim c.if-to-owner.branch [
      | then-to-owner+in_ok-reserve w ↦ record {
        same = ap (λ v. batches_of v.items) w.queues-is ∙ batches_same c.loop-to.queues.items c.loop-to.to w.index_mut.result.now w.reserve.new.self high w.index_mut.ensures.value w.reserve.ensures.same ∙ c.loop-to.invariant.same;
        many = ap vec_len w.queues-is ∙ c.loop-to.invariant.many;
        room = λ k less other. subst (λ (q : List Queue). 288 ≤ room_in q k) (sym (ap (λ v. v.items) w.queues-is))
            (reserved_more c.loop-to.queues.items c.loop-to.to w.reserve.new.self c.args.owner high w.in_ok-reserve.ensures.room c.loop-to.invariant.room k less other);
      }
      | else-to-owner w ↦ record {
        same = ap (λ v. batches_of v.items) w.queues-is ∙ c.loop-to.invariant.same;
        many = ap vec_len w.queues-is ∙ c.loop-to.invariant.many;
        room = λ k less other. subst (λ (q : List Queue). 288 ≤ room_in q k) (sym (ap (λ v. v.items) w.queues-is))
            (c.loop-to.invariant.room k (let here = w.if-to-owner.false in omega (arith, less, other, here)) other);
      }
    ]
