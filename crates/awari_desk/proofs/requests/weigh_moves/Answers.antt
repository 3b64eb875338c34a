use Rattle.std.proofs.Common.{inr, refl}
use Rattle.awari_desk.proofs.requests.weigh_moves.Goals as goal

pub returns-in-Err : goal.returns-in-Err
returns-in-Err g c = (c.args.text.now, inr (c.args.replies, refl), c.requires, c.in-Err.ensures.faulty, refl)
