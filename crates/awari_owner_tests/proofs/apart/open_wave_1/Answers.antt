use Rattle.std.proofs.Common.{◌≡◌, refl, ap, arith, rules}
use Rattle.awari_block.specs.Part.{Part}
use Rattle.awari_phase.proofs.Gaining.{grown_wave}
use Rattle.awari_owner_tests.proofs.apart.open_wave_1.Goals as goal

pub returns : goal.returns
returns g c = record {
  grown = grown_wave c.args.owner.now _ 1 refl refl c.open_wave.ensures (c.is_empty.ensures.empty.0 (search rules));
  ends = refl;
  wave = (let now = ap (λ (p : Part). p.wave) c.open_wave.ensures.wave in let was : c.args.owner.now.part.wave ≡ 0 = search rules in omega (arith, now, was));
}
