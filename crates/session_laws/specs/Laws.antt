-- The statement of the law.
use Rattle.std.specs.Prelude.{◌≡◌, ◌↔◌, ℕ, List}
use Rattle.calc_session.specs.Answers.{Answers}
use Rattle.calc_session.specs.Session.{answers}
use Rattle.session_laws.specs.Answered.{IsAnswered}

-- the answers that the rules give are those that the function computes
abbrev pub AnswersAreAnswered : Type 0
AnswersAreAnswered = (bytes : List ℕ) (A : Answers) → (IsAnswered bytes A ↔ (answers bytes ≡ A))
