use Rattle.session_laws.proofs.Answering.{answers_are_answered}
use Rattle.session_laws.proofs.answers_are_answered.Goals as goal

pub returns : goal.returns
returns c = answers_are_answered
