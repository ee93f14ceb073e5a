use Rattle.std.proofs.Common.{◌+◌, ◌≤◌, length}
use Rattle.calc_session.specs.Lines.{lines}
use Rattle.calc_session.specs.View.{answers_of}
use Rattle.sdmp_top.proofs.OutsideLemmas.{Steady}
use Rattle.sdmp_top.proofs.AnswerLemmas.{Reached}
use Rattle.sdmp_top.specs.Work.{IsTalliedUpTo, calculations_by, tally_of}
use Rattle.sdmp_top.proofs.answering.answer_lines.Given as goal

abbrev pub invariant-loop-rest : goal.invariant-loop-rest
invariant-loop-rest g l = record {
  reached : Reached (g.K.Sink.held l.initial.sink) (g.K.Sink.held l.sink) (answers_of l.initial.session l.first (lines l.body)) (answers_of l.session l.number (lines l.rest));
  numbers : l.number + length l.rest ≤ 18446744073709551615;
  steady : Steady g.K.Sink l.initial.sink l.sink;
  tallied : IsTalliedUpTo l.by.workers (calculations_by l.initial.session (lines l.body)) (calculations_by l.session (lines l.rest)) (tally_of l.initial.ends) (tally_of l.ends);
}

abbrev pub decreases-loop-rest : goal.decreases-loop-rest
decreases-loop-rest g l = length l.rest
