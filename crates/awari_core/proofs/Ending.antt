-- A core at its end.
use Rattle.std.proofs.Common.{◌≡◌, max, All, ap, subst, ◌∙◌}
use Rattle.std.proofs.lemmas.List.{get_or_default}
use Rattle.awari_block.specs.Part as part
use Rattle.awari_heard.specs.Level.{no_part}
use Rattle.awari_core.specs.Core.{Core, IsAllQuiet, Sound}

-- each part is closed
pub closed_parts : (core : Core) → Sound core → core.gain ≡ 0 → IsAllQuiet core → All part.IsClosed core.parts
closed_parts core sound none quiet k d low =
    subst part.IsClosed (get_or_default core.parts k no_part d low)
    (sound.sound.step.gain k low ∙ sound.gain ∙ ap (max 1) none, quiet.0 k no_part low)
