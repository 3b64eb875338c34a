use Rattle.std.proofs.Common.{sym}
use Rattle.awari_packed.proofs.Digits.{get_or-pits_of}
use Rattle.awari_packed.proofs.words.pit.Goals as goal

pub returns : goal.returns
returns c = sym (get_or-pits_of c.args.bits c.args.i c.requires)
