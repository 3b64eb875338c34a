-- What the functions that make the commands say. No public contract goes by this.
use Rattle.std.specs.Prelude.{◌≡◌, false, [], List, Result, IfOk, fold}
use Rattle.clap.specs.Walk.{Rule, rule_of}
use Rattle.clap.specs.Simple.{App, Shape, app_of, with_subcommand}
use Rattle.clap.specs.declared.builder.arg.Arg.{Arg}
use Rattle.clap.specs.declared.builder.command.Command.{Command}
use Rattle.clap.specs.declared.builder.command.Command.TheViews.{out-Command as fields_of}

-- the argument has this rule, and is there for its own command alone
abbrev pub IsArg : Arg → Rule → Type 0
IsArg made rule = (rule_of made ≡ rule) × (made.global ≡ false)

-- the command is this one with its subcommands, none of whose arguments is there for other commands
abbrev pub IsApp : Command → App → Type 0
IsApp made app = (app_of made ≡ app) × ((fields_of made).has_globals ≡ false)

-- the command is this one, and has no subcommand
abbrev pub IsCommand : Command → Shape → Type 0
IsCommand made shape = IsApp made (record { top = shape; subs = [] })

-- where there was room to make it
abbrev pub MakesApp : {E : Type 0} → Result Command E → App → Type 0
MakesApp result app = IfOk result (λ made. IsApp made app)

abbrev pub MakesCommand : {E : Type 0} → Result Command E → Shape → Type 0
MakesCommand result shape = IfOk result (λ made. IsCommand made shape)

abbrev pub with_subcommands : App → List Shape → App
with_subcommands = fold with_subcommand
