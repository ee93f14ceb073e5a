-- The commands of a session: the word of each, and how many names it takes.
use Rattle.std.specs.Prelude.{◌==◌, ℕ, Bool, List, codes, if◌then◌else◌, Option, Some, None}
use Rattle.std.specs.Str.{bytes_eq}
use Rattle.calc_session.specs.declared.commands.Command.{Command}
use Rattle.calc_session.specs.declared.commands.Command.TheVariants.{Show, Mul, Div, Rem}

-- the command of a word
unfoldable pub command_of : List ℕ → Option Command
command_of word =
    if bytes_eq word (codes "show") then Some Show
    else (if bytes_eq word (codes "mul") then Some Mul
    else (if bytes_eq word (codes "div") then Some Div
    else (if bytes_eq word (codes "rem") then Some Rem else None)))

-- whether a command takes so many names
abbrev pub takes : Command → ℕ → Bool
takes Show count = count == 1
takes Mul count = count == 2
takes Div count = count == 2
takes Rem count = count == 2
