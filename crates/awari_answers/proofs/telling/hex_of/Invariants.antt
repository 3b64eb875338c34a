use Rattle.std.proofs.Common.{◌≡◌, ◌*◌, take}
use Rattle.std.specs.List.{flat_map}
use Rattle.arrayvec.specs.ArrayString.{array_string_len}
use Rattle.awari_answers.specs.LevelLines.{byte_text}
use Rattle.awari_answers.proofs.telling.hex_of.Given as goal

abbrev pub invariant-loop-byte : goal.invariant-loop-byte
invariant-loop-byte l = record { room : array_string_len l.text ≡ 2 * l.byte-index; digits : l.text.bytes ≡ flat_map byte_text (take l.byte-index l.digest) }
