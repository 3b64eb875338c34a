-- The commands that the program understands, with the words of each, as `clap` reads them: `subcommand_of awari_commands words` is the
-- command that the words name, with the values that they give to each of its names. Names, kinds and values stand in the table `COMMANDS`.
use Rattle.std.specs.Prelude.{ℕ, List, [], ◌∷◌, Option, Some, None, true, false, codes, map, pos}
use Rattle.clap.specs.Walk.{Rule}
use Rattle.clap.specs.Simple.{App, Shape, new_rule, new_shape}
use Rattle.clap.specs.declared.builder.action.ArgAction.TheVariants.{Append, SetTrue}
use Rattle.clap.specs.declared.builder.value_parser.ValueParser.{ValueParser}
use Rattle.clap.specs.declared.builder.value_parser.ValueParser.TheVariants.{NonEmptyString, Signed, Unsigned}
use Rattle.awari_words.specs.declared.commands.TheConstants.{COMMANDS}
use Rattle.awari_words.specs.declared.commands.CommandRow.{CommandRow}
use Rattle.awari_words.specs.declared.commands.Word.{Word}
use Rattle.awari_words.specs.declared.commands.Kind.{Kind}
use Rattle.awari_words.specs.declared.commands.Kind.TheVariants.{Needed, Optional, OrZero, Many, Flag, Valued, Short, Defaulted, Study}
use Rattle.awari_words.specs.declared.commands.Values.{Values}
use Rattle.awari_words.specs.declared.commands.Values.TheVariants.{AnyText, Name, U8, U32, Between}

abbrev pub parser_of : Values → Option ValueParser
parser_of AnyText = None
parser_of Name = Some NonEmptyString
parser_of U8 = Some (Signed (pos 0) (pos 255))
parser_of U32 = Some (Signed (pos 0) (pos 4294967295))
parser_of (Between least most) = Some (Unsigned least most)

-- a word of these values, which may be left out
abbrev pub plain : List ℕ → Values → Rule
plain name values = record (new_rule name) { parser = parser_of values }

-- the option `--name VALUE`
abbrev pub option : List ℕ → Values → Rule
option name values = record (plain name values) { long = Some name; value_names = 1 }

-- the word of this name, by its kind
abbrev pub kind_rule : {T : Type 0} → (T → List ℕ) → List ℕ → Kind T → Rule
kind_rule text name (Needed values) = record (plain name values) { required = true }
kind_rule text name (Optional values) = plain name values
kind_rule text name (OrZero values) = record (plain name values) { defaults = codes "0" ∷ [] }
kind_rule text name Many = record (new_rule name) { action = Some Append }
kind_rule text name Flag = record (new_rule name) { long = Some name; action = Some SetTrue }
kind_rule text name (Valued value values) = option name values
kind_rule text name (Short letter value values) = record (option name values) { short = Some letter }
kind_rule text name (Defaulted value values default) = record (option name values) { defaults = text default ∷ [] }
kind_rule text name (Study value values default) = record (option name values) { defaults = text default ∷ [] }

abbrev pub word_rule : {T : Type 0} → (T → List ℕ) → Word T → Rule
word_rule text word = kind_rule text (text word.0) word.1

abbrev pub command : List ℕ → List Rule → Shape
command name words = record (new_shape name) { rules = words }

-- the command of a row of the table
abbrev pub shape_of_row : {T W : Type 0} → (T → List ℕ) → (W → List (Word T)) → CommandRow T W → Shape
shape_of_row text words row = command (text row.name) (map (word_rule text) (words row.words))

-- the program with no command: the first word is its own name, and a command has to follow
abbrev pub awari : Shape
awari = record (new_shape (codes "awari")) { has_version = true; arg_required_else_help = true; subcommand_required = true }

abbrev pub awari_commands : App
awari_commands = record { top = record awari { is_leaf = false }; subs = map (shape_of_row (λ text. text.now) (λ words. words.now)) COMMANDS }
