use Rattle.std.proofs.Common.{inl, refl}
use Rattle.awari_desk.proofs.requests.ask.Goals as goal

pub returns-in-Err : goal.returns-in-Err
returns-in-Err g c = (c.args.text.now, inl refl, c.requires, c.in-Err.ensures.faulty, refl)
