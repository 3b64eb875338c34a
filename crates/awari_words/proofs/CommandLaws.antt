-- The program is one of which clap says exactly what the words give.
use Rattle.std.proofs.Common.{◌≡◌, true, refl}
use Rattle.clap.specs.Words.{is_simple, is_simple_and_free}
use Rattle.clap.proofs.OnLiterals.{clap_on_literals}
use Rattle.awari_words.specs.Commands.{awari_commands}

pub commands_are_simple : is_simple awari_commands ≡ true
unfolding clap_on_literals
commands_are_simple = refl

pub commands_are_free : is_simple_and_free awari_commands ≡ true
unfolding clap_on_literals
commands_are_free = refl
