use Rattle.std.proofs.Common.{refl}
use Rattle.awari_block.proofs.laws.worked_examples.Goals as goal

pub returns : goal.returns
returns c = record {
  lost = refl;
  as_near = refl;
  farther = refl;
  first_won = refl;
  last_won = refl;
  won_before = refl;
  capture_is_better = refl;
  equal_capture = refl;
  captures_win = refl;
  captures_lose = refl;
  not_heard_yet = refl;
  ended = refl;
  second_block = refl;
  last_block = refl;
  empty_block = refl;
}
