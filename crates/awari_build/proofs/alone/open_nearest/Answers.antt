use Rattle.std.proofs.Common.{ap}
use Rattle.awari_block.specs.Part.{Part}
use Rattle.awari_build.proofs.OnePart.{sound_opened}
use Rattle.awari_build.proofs.alone.open_nearest.Goals as goal

pub returns-clause-stays : goal.returns-clause-stays
returns-clause-stays c =
    let opened = c.open_wave.ensures in
    record { level = ap (λ (p : Part). p.level) opened.wave; gain = ap (λ (p : Part). p.gain) opened.wave; sound = λ value s. sound_opened value _ _ opened.tallied opened.own s }
