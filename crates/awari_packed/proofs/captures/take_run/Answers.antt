use Rattle.std.proofs.Common.{◌-◌, ◌∙◌, ap, sym, refl, arith}
use Rattle.awari_board.specs.Rules.{is_takeable}
use Rattle.awari_board.proofs.Capturing.{IsCapturing-none, run_to-end, run_to-own, taken-from_IsCapturing, emptied-from_IsCapturing}
use Rattle.awari_packed.proofs.Digits.{long-pits_of, IsPacking-from_IsPackOf}
use Rattle.awari_packed.proofs.Taking.{IsCapturing-without}
use Rattle.awari_packed.proofs.captures.take_run.Goals as goal

pub loop-end-init : goal.loop-end-init
loop-end-init c = record {
  packing = c.requires.packing;
  so_far = IsCapturing-none _ _ (long-pits_of c.args.bits) c.requires.on_board;
}

pub loop-end-preserved : goal.loop-end-preserved
loop-end-preserved c = record {
  packing = IsPacking-from_IsPackOf c.without-left.ensures;
  so_far =
      IsCapturing-without c.args.bits c.args.last c.loop-end.end (c.loop-end.end - 1) c.loop-end.taken c.loop-end.left c.without-left.result c.pit-stones.result _ c.requires.on_board c.loop-end.invariant.so_far (omega arith) (omega arith)
      (ap is_takeable (sym c.pit.ensures) ∙ sym c.is_takeable.ensures ∙ c.if-is_takeable.true)
      c.pit-stones.ensures c.without-left.ensures refl;
}

pub returns-else-is_takeable : goal.returns-else-is_takeable
returns-else-is_takeable c =
    let so_far = c.loop-end.invariant.so_far in
    let stop = run_to-end _ _ _ (c.loop-end.end - 1) _ _ (long-pits_of c.args.bits) c.requires.on_board so_far (omega arith) (omega arith) (ap is_takeable (sym c.pit.ensures) ∙ sym c.is_takeable.ensures ∙ c.if-is_takeable.false) in
    record {
      packing = c.loop-end.invariant.packing;
      taken = taken-from_IsCapturing _ _ _ _ _ so_far stop;
      emptied = emptied-from_IsCapturing _ _ _ _ _ so_far stop;
    }

pub returns-after-loop-end : goal.returns-after-loop-end
returns-after-loop-end c =
    let so_far = c.loop-end.invariant.so_far in
    let stop = run_to-own _ c.loop-end.end (omega arith) in
    record {
      packing = c.loop-end.invariant.packing;
      taken = taken-from_IsCapturing _ _ _ _ _ so_far stop;
      emptied = emptied-from_IsCapturing _ _ _ _ _ so_far stop;
    }
