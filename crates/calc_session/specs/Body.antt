-- The lines of the body.
use Rattle.std.specs.Prelude.{◌+◌, ℕ, not, List, [], ◌∷◌, length, if◌then◌else◌, Result, Ok, Err, Option, Some, None, take, position}
use Rattle.calc_session.specs.Lines.{is_equals, is_skipped}
use Rattle.calc_session.specs.Commands.{command_of, takes}
use Rattle.poly_text.specs.Words.{words_of}
use Rattle.poly_text.specs.Names.{is_name, is_reserved, is_among}
use Rattle.calc_session.specs.declared.commands.Command.{Command}
use Rattle.calc_session.specs.declared.fault.LineFault.{LineFault}
use Rattle.calc_session.specs.declared.fault.LineFault.TheVariants.{BadName, ReservedName, VariableName, UnknownCommand, ArgumentCount}

-- what a line says: nothing; a definition, with its name and the place where its polynomial begins; or an ask, of a command and the names that it takes
pub data Form : Type 0 where
  Skip : Form
  Define : List ℕ → ℕ → Form
  Ask : Command → List (List ℕ) → Form

-- the word, where it is the only one; none is a name else
abbrev pub only_word : List (List ℕ) → List ℕ
only_word (word ∷ []) = word
only_word _ = []

unfoldable pub definition : List (List ℕ) → List ℕ → ℕ → Result Form LineFault
definition variables name start =
    if not (is_name name) then Err BadName
    else (if is_reserved name then Err ReservedName
    else (if is_among name variables then Err VariableName else Ok (Define name start)))

-- a command is asked with as many names as it takes
abbrev pub ask : List (List ℕ) → Option Command → Result Form LineFault
ask names None = Err UnknownCommand
ask names (Some command) = if takes command (length names) then Ok (Ask command names) else Err ArgumentCount

-- the first word is the command
abbrev pub asked : List (List ℕ) → Result Form LineFault
asked [] = Ok Skip
asked (word ∷ names) = ask names (command_of word)

-- the first `=` stands at this place, if the line has one
abbrev pub definition_at : List (List ℕ) → List ℕ → Option ℕ → Result Form LineFault
definition_at variables line (Some i) = definition variables (only_word (words_of (take i line))) (i + 1)
definition_at variables line None = asked (words_of line)

-- what a line of the body says, where these are the variables
abbrev pub form_of : List (List ℕ) → List ℕ → Result Form LineFault
form_of variables line = if is_skipped (words_of line) then Ok Skip else definition_at variables line (position is_equals line)
