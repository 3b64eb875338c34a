-- A part hears notes, and is settled further.
use Rattle.awari_block.specs.Part.{Part}
use Rattle.awari_block.proofs.Settling.{settles_none, settles_both}
use Rattle.awari_segments.specs.Segments.{SettlesPast}

pub past_none : (part : Part) → SettlesPast part part
past_none part = record { settles = settles_none part; passed = λ passed. passed }

pub past_both : (a b c : Part) → SettlesPast a b → SettlesPast b c → SettlesPast a c
past_both a b c one two = record { settles = settles_both a b c one.settles two.settles; passed = λ passed. two.passed (one.passed passed) }
