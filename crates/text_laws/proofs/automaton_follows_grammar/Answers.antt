use Rattle.text_laws.proofs.Run.{text_taken}
use Rattle.text_laws.proofs.Texts.{taken_text, live_begins, begins_live}
use Rattle.text_laws.proofs.automaton_follows_grammar.Goals as goal

pub returns-clause-accepts : goal.returns-clause-accepts
returns-clause-accepts c = λ bs. (taken_text bs, text_taken bs)

pub returns-clause-lives : goal.returns-clause-lives
returns-clause-lives c = λ bs. (live_begins bs, begins_live bs)
