use Rattle.std.proofs.Common.{ap, ◌∙◌, arith}
use Rattle.std.proofs.lemmas.List.{take_all}
use Rattle.std.specs.List.{flat_map}
use Rattle.awari_answers.specs.LevelLines.{byte_text, digest_text}
use Rattle.awari_answers.proofs.telling.hex_of.Goals as goal

pub returns : goal.returns
unfolding digest_text
returns c = c.loop-byte.invariant.digits ∙ ap (flat_map byte_text) (take_all c.loop-byte.byte-index c.args.digest.now (omega arith))
