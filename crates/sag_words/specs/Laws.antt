-- Laws of words.
--   OneCommand   words ask for at most one command
use Rattle.std.specs.Prelude.{◌≡◌, List}
use Rattle.clap.specs.Words.{Text}
use Rattle.sag_words.specs.Words.{WordsOf}
use Rattle.sag_words.specs.declared.command.Command.{Command}

-- words ask for at most one command
abbrev pub OneCommand : Type 0
OneCommand = (words : List Text) (one other : Command) → WordsOf words one → WordsOf words other → one ≡ other
