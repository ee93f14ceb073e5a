-- The command's walk over the words, as states of our own.
use Rattle.std.proofs.Common.{Bool, false, List, [], ◌∷◌, ◌++◌, map, Option, Some, None, codes, cond, is_some, slice_get}
use Rattle.std.specs.List.{list_any}
use Rattle.std.specs.Option.{option_map_or}
use Rattle.std.specs.Prelude.{option_map, option_and_then}
use Rattle.std.specs.Str.{bytes_eq, chars}
use Rattle.clap.specs.Lexer.{long_of, short_of}
use Rattle.clap.specs.Words.{Rule, new_rule, built}
use Rattle.clap.specs.Walk.{Row, Text, Waiting, Walk, idle, option, reading_by}
use Rattle.clap.specs.Simple.{Shape, filled}
use Rattle.clap.specs.declared.parser.matches.ValueSource.TheVariants.{CommandLine}
use Rattle.sdmp_words.specs.Command.{bare, sdmp, option as option_rule}

-- the three options
pub data Name : Type 0 where
  workers : Name
  places : Name
  demo : Name

abbrev pub text_of : Name → Text
text_of workers = codes "workers"
text_of places = codes "places"
text_of demo = codes "demo"

abbrev pub known : Text → Option Name
known text =
    cond (bytes_eq (codes "workers") text) (Some workers)
    (cond (bytes_eq (codes "places") text) (Some places)
    (cond (bytes_eq (codes "demo") text) (Some demo) None))

-- an option with its value
abbrev pub Given : Type 0
Given = Name × Text

-- the option is among these
abbrev pub has : Name → List Given → Bool
has n done = list_any (λ g. bytes_eq (text_of g.0) (text_of n)) done

-- one more option, where it isn't among those before it
abbrev pub settle : List Given → Option Given → Option (List Given)
settle done None = Some done
settle done (Some g) = cond (has g.0 done) None (Some (done ++ g ∷ []))

-- the options so far, and the last one, which may be one of them; or those, and the one whose value is the next word
pub data State : Type 0 where
  between : List Given → Option Given → State
  waits : List Given → Name → State

abbrev pub taken : Name → Option Text → List Given → Option State
taken n (Some value) done = option_map (λ d. between d None) (settle done (Some (n, value)))
taken n None done = Some (waits done n)

-- the state after a word
abbrev pub after_long : List Given → Option Given → Option (Text × Option Text) → Option State
after_long done last None = None
after_long done last (Some p) = option_and_then (λ n. option_and_then (taken n p.1) (settle done last)) (known p.0)

-- the word begins with a hyphen and another character
abbrev pub is_flag : Text → Bool
is_flag word = option_map_or (λ flags. is_some (slice_get (chars flags) 0)) (short_of word) false

abbrev pub after_value : List Given → Name → Text → Option (Text × Option Text) → Option State
after_value done n word None = cond (is_flag word) None (Some (between done (Some (n, word))))
after_value done n word (Some p) = None

abbrev pub step : State → Text → Option State
step (between done last) word = after_long done last (long_of word)
step (waits done n) word = after_value done n word (long_of word)

abbrev pub finish : State → Option (List Given)
finish (between done last) = settle done last
finish (waits done n) = None

-- the options that the words give from a state on, where the command takes them
unfoldable pub found_from : State → List Text → Option (List Given)
found_from state [] = finish state
found_from state (word ∷ words) = option_and_then (λ next. found_from next words) (step state word)

-- ---- the same in the command's terms

unfoldable pub shape : Shape
unfolding sdmp bare
shape = (built sdmp).top

unfoldable pub rules : List Rule
rules = shape.rules

unfoldable pub rule_for : Name → Rule
rule_for n = filled (option_rule (new_rule (text_of n)))

abbrev pub row_for : Given → Row
row_for g = record { id = text_of g.0; values = g.1 ∷ []; count = None; source = Some CommandLine; reading = reading_by (rule_for g.0) }

abbrev pub rows_for : List Given → List Row
rows_for done = map row_for done

abbrev pub walk_of : List Given → Option (Text × List Text) → Waiting → Walk
walk_of done pending waiting = record {
  held = record { rows = rows_for done; pending = pending; skip = 0 };
  waiting = waiting;
  position = 1;
  is_trailing = false;
  stopped = None;
}

abbrev pub pending_of : Option Given → Option (Text × List Text)
pending_of last = option_map (λ g. (text_of g.0, g.1 ∷ [])) last

abbrev pub walk_at : State → Walk
walk_at (between done last) = walk_of done (pending_of last) idle
walk_at (waits done n) = walk_of done (Some (text_of n, [])) (option (text_of n))
