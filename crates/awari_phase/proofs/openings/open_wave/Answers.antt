use Rattle.std.proofs.Common.{refl, ap, arith}
use Rattle.awari_block.specs.Part.{Part}
use Rattle.awari_phase.proofs.Gaining.{grown_wave}
use Rattle.awari_phase.proofs.openings.open_wave.Goals as goal

pub returns-then-wave-dist : goal.returns-then-wave-dist
returns-then-wave-dist c = record {
  grown = grown_wave c.args.owner.now _ c.args.dist refl refl c.open_wave.ensures c.requires.sent;
  ends = refl;
  wave = (let now = ap (λ (p : Part). p.wave) c.open_wave.ensures.wave in let was = c.wave.ensures in let less = c.if-wave-dist.true in omega (arith, now, was, less));
}
