use Rattle.std.proofs.Common.{inl}
use Rattle.std.proofs.lemmas.Result.{err_from_is_err_and}
use Rattle.awari_phase.specs.Owners.{AllGrown}
use Rattle.awari_phase.proofs.Gaining.{all_grown_kept, all_grown_trans, finished_grown}
use Rattle.awari_phase.proofs.Worked.{written_back}
use Rattle.awari_phase.proofs.phases.gain_phase_with_progress.Goals as goal

pub loop-init : goal.loop-init
loop-init g c = record {
  grown = all_grown_kept c.args.owners.items c.in_ok-all.all.items c.in_ok-all.ensures.rounds.kept c.requires.grid;
  together = λ value n t. c.in_ok-all.ensures.rounds.together value n t;
}

pub returns-then-not-is_more-clause-closes : goal.returns-then-not-is_more-clause-closes
returns-then-not-is_more-clause-closes g c =
    let over = c.if-not-is_more.true in
    let looked : AllGrown c.loop.all.items c.is_more.new.owners = rw c.as_mut_slice.ensures.value at c.is_more.ensures.grown in
    let grown = all_grown_trans c.args.owners.items c.loop.all.items c.is_more.new.owners c.loop.invariant.grown looked in
    rw (written_back _ _ _ _ c.loop.all.ok.0 c.as_mut_slice.ensures.value c.is_more.auto.owners) (record {
      grown = grown;
      idle = c.is_more.ensures.idle over;
      sent = c.is_more.ensures.sent over;
      received = c.is_more.ensures.received over;
      finished = λ value n finished. finished_grown value n c.args.owners.items c.is_more.new.owners grown (c.is_more.ensures.sent over) (c.is_more.ensures.received over) finished;
    })

pub loop-preserved : goal.loop-preserved
loop-preserved g c =
    let back = written_back c.loop.all.items c.as_mut_slice.result.now c.is_more.new.owners c.loop.all.len c.loop.all.ok.0 c.as_mut_slice.ensures.value c.is_more.auto.owners in
    let looked : AllGrown c.loop.all.items c.is_more.new.owners = rw c.as_mut_slice.ensures.value at c.is_more.ensures.grown in
    record {
      grown =
          all_grown_trans c.args.owners.items c.is_more.new.owners c.in_ok-all-2.all.items
          (all_grown_trans c.args.owners.items c.loop.all.items c.is_more.new.owners c.loop.invariant.grown looked)
          (all_grown_kept c.is_more.new.owners c.in_ok-all-2.all.items (rw back at c.in_ok-all-2.ensures.rounds.kept) looked.grid);
      together = λ value n t. c.in_ok-all-2.ensures.rounds.together value n (rw back (c.is_more.ensures.together value n (rw c.as_mut_slice.ensures.value (c.loop.invariant.together value n t))));
    }

pub returns-in_err-all-clause-wanting : goal.returns-in_err-all-clause-wanting
returns-in_err-all-clause-wanting g c =
    let p = err_from_is_err_and c.from_residual.result c.from_residual.ensures.1 in
    rw (p.1, p.2) (λ value n small t. inl (c.in_err-all.ensures.wanting value n small t))

pub returns-in_err-all-2-clause-wanting : goal.returns-in_err-all-2-clause-wanting
returns-in_err-all-2-clause-wanting g c =
    let p = err_from_is_err_and c.from_residual-in_err-all-2.result c.from_residual-in_err-all-2.ensures.1 in
    let back = written_back c.loop.all.items c.as_mut_slice.result.now c.is_more.new.owners c.loop.all.len c.loop.all.ok.0 c.as_mut_slice.ensures.value c.is_more.auto.owners in
    rw (p.1, p.2) (λ value n small t. inl (c.in_err-all-2.ensures.wanting value n small (rw back (c.is_more.ensures.together value n (rw c.as_mut_slice.ensures.value (c.loop.invariant.together value n t))))))

pub returns-in_err-all-2-clause-refused : goal.returns-in_err-all-2-clause-refused
returns-in_err-all-2-clause-refused g c =
    let p = err_from_is_err_and c.from_residual-in_err-all-2.result c.from_residual-in_err-all-2.ensures.1 in
    let back = written_back c.loop.all.items c.as_mut_slice.result.now c.is_more.new.owners c.loop.all.len c.loop.all.ok.0 c.as_mut_slice.ensures.value c.is_more.auto.owners in
    let looked : AllGrown c.loop.all.items c.is_more.new.owners = rw c.as_mut_slice.ensures.value at c.is_more.ensures.grown in
    rw (p.1, p.2) (inl (c.is_more.new.owners, all_grown_trans c.args.owners.items c.loop.all.items c.is_more.new.owners c.loop.invariant.grown looked, rw back at c.in_err-all-2.ensures.refused))
