use Rattle.std.proofs.Common.{◌-◌, sym, ap, ◌∙◌, subst, arith}
use Rattle.awari_unmove.specs.Steps.{holds, origin_of}
use Rattle.awari_unmove.specs.Undoing.{unmoves_from}
use Rattle.awari_unmove.specs.Predecessors.{IsFarPredecessors}
use Rattle.awari_unmove.proofs.FarSide.{bits-turned, length-turned, few-turned, last_origin, last_origin-own, last_origin-held, IsUndoingFrom-start}
use Rattle.awari_unmove.proofs.Predecessors.{IsFarPredecessors-start, length-unmoves_from}
use Rattle.awari_unmove.proofs.far.far_of.Goals as goal

pub overflow_sub-result : goal.overflow_sub-result
overflow_sub-result c = last_origin-own _ _ (last_origin _ _ _ (bits-turned _ _ _ c.requires.board c.requires.back c.requires.bits) c.last_origin-pit.ensures)

pub taken_back-requires-clause-own : goal.taken_back-requires-clause-own
taken_back-requires-clause-own c = let own = last_origin-own _ _ (last_origin _ _ _ (bits-turned _ _ _ c.requires.board c.requires.back c.requires.bits) c.last_origin-pit.ensures) in omega (arith, own)

pub taken_back-requires-clause-from : goal.taken_back-requires-clause-from
taken_back-requires-clause-from c = last_origin-own _ _ (last_origin _ _ _ (bits-turned _ _ _ c.requires.board c.requires.back c.requires.bits) c.last_origin-pit.ensures)

pub taken_back-requires-clause-held : goal.taken_back-requires-clause-held
taken_back-requires-clause-held c = last_origin-held _ _ (last_origin _ _ _ (bits-turned _ _ _ c.requires.board c.requires.back c.requires.bits) c.last_origin-pit.ensures)

pub invariant_of-result : goal.invariant_of-result
invariant_of-result c =
    let last = last_origin _ _ _ (bits-turned _ _ _ c.requires.board c.requires.back c.requires.bits) c.last_origin-pit.ensures in
    IsUndoingFrom-start _ _ _ (length-turned _ _ c.requires.board c.requires.back) (few-turned _ _ c.requires.board c.requires.back) last c.taken_back.ensures

pub returns-clause-predecessors : goal.returns-clause-predecessors
returns-clause-predecessors c =
    let last = last_origin _ _ _ (bits-turned _ _ _ c.requires.board c.requires.back c.requires.bits) c.last_origin-pit.ensures in
    let own = last_origin-own _ _ last in
    subst (λ back. IsFarPredecessors c.args.board.now (unmoves_from back c.last_origin-pit.result (5 - c.last_origin-pit.result))) (sym c.requires.back)
    (IsFarPredecessors-start c.args.board.now c.last_origin-pit.result c.requires.board (omega (arith, own)) (last ∙ ap (λ back. origin_of (holds back) 6) c.requires.back))

pub returns-clause-few : goal.returns-clause-few
returns-clause-few c = length-unmoves_from _ _ _
