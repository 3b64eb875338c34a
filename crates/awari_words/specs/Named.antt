-- What the words name, as rows that compute: the command, and the values of each of its names.
use Rattle.std.specs.Prelude.{ℕ, List, Option, option_map, map}
use Rattle.clap.specs.Walk.{Row}
use Rattle.clap.specs.Simple.{subcommand_of}
use Rattle.awari_words.specs.Commands.{awari_commands}

abbrev pub value_row : Row → List ℕ × List (List ℕ)
value_row row = (row.id, row.values)

abbrev pub command_row : List ℕ × List Row → List ℕ × List (List ℕ × List (List ℕ))
command_row named = (named.0, map value_row named.1)

abbrev pub named : List (List ℕ) → Option (List ℕ × List (List ℕ × List (List ℕ)))
named words = option_map command_row (subcommand_of awari_commands words)
