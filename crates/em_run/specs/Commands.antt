-- Which words are a command. The commands are this project's own; the words are read as the parser of command lines `clap`
-- reads them for the program's command line.
use Rattle.std.specs.Prelude.{◌≡◌, ℕ, ◌<◌, ◌≤◌, ◌^◌, List, [], length, true, Option, Some, None, codes}
use Rattle.std.specs.Str.Parse.{IsNumeral, digits_value}
use Rattle.clap.specs.Words.{App as CommandLine, Rule, Text, first_of, fault_of, matches_of, new_app, new_rule, with_rule}
use Rattle.clap.specs.Simple.{on_top}
use Rattle.clap.specs.declared.builder.action.ArgAction.TheVariants.{Set}
use Rattle.em_run.specs.declared.commands.Command.{Command}
use Rattle.em_run.specs.declared.commands.Command.TheVariants.{Run, Trial, Replay, List as ListCode, Hint, Bench}

-- ---- the program's command line

-- COMMAND, a value that is required
abbrev pub command_rule : Rule
command_rule = record (new_rule (codes "COMMAND")) { required = true; action = Some Set }

-- --number, an option with a value
abbrev pub number_rule : Rule
number_rule = record (new_rule (codes "number")) { long = Some (codes "number"); action = Some Set }

-- the words after the program's name; there is no flag for help or the version
abbrev pub bare_line : CommandLine
bare_line =
    on_top (λ s. record s { disable_help_flag = true; disable_version_flag = true; no_binary_name = true }) (new_app (codes "emeralds"))

abbrev pub command_line : CommandLine
command_line = with_rule (with_rule bare_line command_rule) number_rule

-- the value that the words give to an argument
abbrev pub value_in : List Text → Text → Option Text
value_in words id = first_of id (matches_of command_line words)

-- ---- commands

-- the text of each command
abbrev pub command_text : Command → List ℕ
command_text Run = codes "run"
command_text Trial = codes "trial"
command_text Replay = codes "replay"
command_text ListCode = codes "list"
command_text Hint = codes "hint"
command_text (Bench n) = codes "bench"

-- the text spells a number of 32 bits in 1 to 10 decimal digits
pub record Spells (n : ℕ) (text : List ℕ) : Type 0 where
  pub numeral : IsNumeral 10 text
  pub few : length text ≤ 10
  pub value : digits_value 10 text ≡ n
  pub fits : n < 2 ^ 32

-- the number that is given is that of the command: `bench` has one, and no other command
abbrev pub IsNumberOf : Command → Option (List ℕ) → Type 0
IsNumberOf (Bench n) (Some text) = Spells n text
IsNumberOf (Bench n) None = ⊥
IsNumberOf Run number = number ≡ None
IsNumberOf Trial number = number ≡ None
IsNumberOf Replay number = number ≡ None
IsNumberOf ListCode number = number ≡ None
IsNumberOf Hint number = number ≡ None

-- the command line takes the words, COMMAND is the text of the command, and the number is its number
pub record IsCommand (words : List Text) (command : Command) : Type 0 where
  pub taken : fault_of command_line words ≡ []
  pub named : value_in words (codes "COMMAND") ≡ Some (command_text command)
  pub numbered : IsNumberOf command (value_in words (codes "number"))

-- the words are none of the commands
abbrev pub IsNoCommand : List Text → Type 0
IsNoCommand words = (command : Command) → IsCommand words command → ⊥
