use Rattle.std.proofs.Common.{◌<◌, ◌≢◌, None, length, get_or, arith, below_more, length-set, get_or-set_other, get_or-set_same, slice_set}
use Rattle.awari_table.specs.Images.{table_of}
use Rattle.awari_table.specs.Reached.{Reaches}
use Rattle.awari_play.proofs.Lasting.{err_same, refused_before}
use Rattle.awari_places.proofs.judging.see_moves.Goals as goal

pub loop-pit-preserved : goal.loop-pit-preserved
loop-pit-preserved g c =
    let i = c.loop-pit.invariant in
    let laws = g.met.T.Table.lasting in
    let six = i.six in
    let inside = c.loop-pit-test.true in
    record {
      six = simp length-set six;
      seen = λ images says.
          below_more (λ x. Reaches (table_of images) c.args.board.now x (get_or (slice_set c.loop-pit.moves c.loop-pit.pit c.in_ok-moves.field-0) x None)) c.loop-pit.pit
          (λ k h. let ne : k ≢ c.loop-pit.pit = omega arith in rw get_or-set_other (i.seen images says k h))
          (let lt : c.loop-pit.pit < length c.loop-pit.moves = omega (arith, six, inside) in rw get_or-set_same (c.in_ok-moves.ensures.reached images (laws.says _ _ images i.keeps says)));
      keeps = laws.on _ _ _ i.keeps c.see_move.ensures.keeps;
    }

pub returns-in_err-moves-clause-fault : goal.returns-in_err-moves-clause-fault
returns-in_err-moves-clause-fault g c =
    err_same c.from_residual.result _ _ c.from_residual.ensures.1 (
    refused_before _ g.met.T.Table.lasting _ _ _ c.loop-pit.invariant.keeps c.in_err-moves.ensures.fault)
