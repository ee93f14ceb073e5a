-- The answers of a session, by what its header says.
use Rattle.std.proofs.Common.{◌≡◌, ℕ, List, Result, Ok, Err, ap}
use Rattle.calc_session.specs.Answers.{refused}
use Rattle.calc_session.specs.Faults.{fault_line}
use Rattle.calc_session.specs.Heads.{Head, head_of}
use Rattle.calc_session.specs.Session.{answers, answers_from, body_answers, setting_of, undefined}
use Rattle.calc_session.specs.declared.header.HeaderFault.{HeaderFault}

pub answers_by : (bytes : List ℕ) (said : Result Head HeaderFault) → head_of bytes ≡ said → answers bytes ≡ answers_from said
unfolding answers
answers_by bytes said e = ap answers_from e

pub answers_head : (bytes : List ℕ) (head : Head) → head_of bytes ≡ Ok head → answers bytes ≡ body_answers (setting_of head) undefined head.line head.body
answers_head bytes head e = answers_by bytes (Ok head) e

pub answers_fault : (bytes : List ℕ) (fault : HeaderFault) → head_of bytes ≡ Err fault → answers bytes ≡ refused (fault_line fault.line fault.fault)
answers_fault bytes fault e = answers_by bytes (Err fault) e
