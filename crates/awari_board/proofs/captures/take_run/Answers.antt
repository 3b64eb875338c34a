use Rattle.std.proofs.Common.{◌-◌, arith, rules}
use Rattle.awari_board.proofs.Capturing.{IsCapturing-more, run_to-end, run_to-own, taken-from_IsCapturing, emptied-from_IsCapturing}
use Rattle.awari_board.proofs.captures.take_run.Goals as goal

pub loop-end-preserved : goal.loop-end-preserved
loop-end-preserved c = IsCapturing-more _ _ _ _ _ _ (search rules) c.requires.on_board c.loop-end.invariant (omega arith) (omega arith) cc

pub returns-else-is_takeable : goal.returns-else-is_takeable
returns-else-is_takeable c =
    let so_far = c.loop-end.invariant in
    let stop = run_to-end _ _ _ (c.loop-end.end - 1) _ _ (search rules) c.requires.on_board so_far (omega arith) (omega arith) cc in
    record {
      taken = taken-from_IsCapturing _ _ _ _ _ so_far stop;
      emptied = emptied-from_IsCapturing _ _ _ _ _ so_far stop;
      kept = search rules;
    }

pub returns-after-loop-end : goal.returns-after-loop-end
returns-after-loop-end c =
    let so_far = c.loop-end.invariant in
    let stop = run_to-own c.args.pits.now c.loop-end.end (omega arith) in
    record {
      taken = taken-from_IsCapturing _ _ _ _ _ so_far stop;
      emptied = emptied-from_IsCapturing _ _ _ _ _ so_far stop;
      kept = search rules;
    }
