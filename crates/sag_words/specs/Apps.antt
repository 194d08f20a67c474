-- How a command's words are read, as `clap` states it.
--   place          an argument that has to be there, by its place
--   named          an argument that may be given, by its name
--   flag           an argument that may be given, and has no value of its own
--   argument_rule  the rule of an argument
--   app_with       the command of that name with these arguments
--   IsInGrammar    the words are in the command's grammar
--   value_at       the value that they give an argument
--   Values         a value for each argument that is given
use Rattle.std.specs.Prelude.{◌≡◌, List, [], Option, Some, true}
use Rattle.clap.specs.Simple.{new_shape}
use Rattle.clap.specs.Words.{App, Rule, Text, fault_of, first_of, matches_of, new_rule}
use Rattle.clap.specs.declared.builder.action.ArgAction.TheVariants.{SetTrue}
use Rattle.sag_words.specs.declared.parse.Argument.{Argument}
use Rattle.sag_words.specs.declared.parse.Argument.TheVariants.{Place, Named, Flag}

-- an argument that has to be there, by its place
abbrev pub place : Text → Rule
place id = record (new_rule id) { required = true }

-- an argument that may be given, as `--id value` or `--id=value`
abbrev pub named : Text → Rule
named id = record (new_rule id) { long = Some id }

-- an argument that may be given, as `--id`
abbrev pub flag : Text → Rule
flag id = record (named id) { action = Some SetTrue }

-- the rule of an argument
abbrev pub argument_rule : Argument → Rule
argument_rule (Place name) = place name.now
argument_rule (Named name) = named name.now
argument_rule (Flag name) = flag name.now

-- The command of that name with these arguments, and with neither help nor version. It reads the words after its name.
abbrev pub app_with : Text → List Rule → App
app_with name arguments = record {
  top = record (new_shape name) {
    no_binary_name = true;
    disable_help_flag = true;
    rules = arguments;
  };
  subs = [];
}

-- the words are in the command's grammar
unfoldable pub IsInGrammar : App → List Text → Type 0
IsInGrammar app words = fault_of app words ≡ []

-- the value of the argument of that name, in words that the command takes
unfoldable pub value_at : App → List Text → Text → Option Text
value_at app words id = first_of id (matches_of app words)

-- a value for each argument that is given, by its name
abbrev pub Values : Type 0
Values = Text → Option Text
