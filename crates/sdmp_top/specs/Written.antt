-- What is written of the answers, and how a run that came to their end ends.
use Rattle.std.specs.Prelude.{◌≡◌, ◌≢◌, Bool, true, [], ◌∷◌, ◌⊎◌, ◌≤◌, ℕ, List, length, take, Option, Some, None, Result, Err, IfOk, OnOk}
use Rattle.calc_session.specs.Answers.{Answers, joined, text}
use Rattle.calc_session.specs.Session.{answers}
use Rattle.calc_session.specs.Demo.{demo_input, summary}
use Rattle.calc_session.specs.declared.ending.Ending.{Ending}
use Rattle.calc_session.specs.declared.ending.Ending.TheVariants as ending
use Rattle.sdmp_top.specs.declared.status.Status.{Status}
use Rattle.sdmp_top.specs.declared.status.Status.TheVariants.{Done, Refused}
use Rattle.sdmp_top.specs.declared.answering_fault.AnsweringFault.{AnsweringFault}
use Rattle.sdmp_top.specs.declared.answering_fault.AnsweringFault.TheVariants as stop
use Rattle.sdmp_top.specs.Outside.{Appends, AppendsPart, Rose}

-- the summary of the answers to the demo's input
unfoldable pub demo_text : ℕ → List ℕ
demo_text seed = summary seed (length (demo_input seed)) (text (answers (demo_input seed)))

-- the demo's run: the summary in place of the answers
abbrev pub demo_answers : ℕ → Answers
demo_answers seed = record { pieces = demo_text seed ∷ []; ending = (answers (demo_input seed)).ending }

-- what is to be answered, where it is told: the demo of a seed, or else the bytes that the source has left
abbrev pub wanted : Option ℕ → Option (List ℕ) → Option Answers
wanted (Some seed) left = Some (demo_answers seed)
wanted None (Some input) = Some (answers input)
wanted None None = None

-- the first k of the pieces stand whole after what was held
pub record AppendsPieces (old now : Option (List ℕ)) (pieces : List (List ℕ)) : Type 0 where
  pub k : ℕ
  pub within : k ≤ length pieces
  pub appends : Appends old now (joined (take k pieces))

abbrev pub status_of : Ending → Status
status_of ending.Done = Done
status_of ending.Refused = Refused

-- the run came to the end of the answers
abbrev pub IsAnsweredStatus : Status → Type 0
IsAnsweredStatus status = (status ≡ Done) ⊎ (status ≡ Refused)

-- The whole text of these answers stands after what was held, it has been flushed, and the status says how the answers end.
pub record Answered (told : Answers) (result : Status) (old now : Option (List ℕ)) (is_flushed : Bool) : Type 0 where
  pub status : result ≡ status_of told.ending
  pub text : Appends old now (text told)
  pub flushed : is_flushed ≡ true

-- What answering leaves: at its end the whole text stands in the sink, after a write fault a part of it, and after want of memory the first pieces.
pub record IsAnswering (told : Answers) (old now : Option (List ℕ)) (before after : ℕ) (at_last : Type 0) (result : Result Ending AnsweringFault) : Type 0 where
  pub ending : IfOk result (λ end. told.ending ≡ end)
  pub written : OnOk result (Appends old now (text told))
  pub part : result ≡ Err stop.WriteFault → AppendsPart old now (text told)
  pub pieces : result ≡ Err stop.NoMemory → AppendsPieces old now told.pieces
  pub later : before ≤ after
  pub rose : result ≡ Err stop.WriteFault → Rose before after at_last
  pub steady : result ≢ Err stop.WriteFault → after ≡ before
