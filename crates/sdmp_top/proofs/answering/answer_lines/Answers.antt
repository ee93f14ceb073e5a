use Rattle.std.proofs.Common.{◌≡◌, ◌+◌, ℕ, List, [], ◌∷◌, Ok, length, refl, sym, ap, subst, ◌∙◌, arith}
use Rattle.calc_session.specs.Lines.{lines}
use Rattle.calc_session.specs.Answers.{Answers, text, before}
use Rattle.calc_session.specs.View.{answers_of}
use Rattle.sdmp_top.specs.Outside.{Appends, AppendsPart, Rose}
use Rattle.sdmp_top.proofs.OutsideLemmas.{rose_from}
use Rattle.sdmp_top.proofs.AnswerLemmas.{reached_none, reached_more, reached_pieces, reached_part, reached_refused, reached_done, reached_ending, text_of_line, at_its_end, at_a_fault, without_memory, no_more, when_err, when_ok}
use Rattle.sdmp_top.specs.Work.{tally_of, calculations_by, IsTalliedUpTo}
use Rattle.sdmp_top.proofs.WorkLemmas.{up_to_none, up_to_more, up_to_end, no_more_made}
use Rattle.sdmp_top.proofs.answering.answer_lines.Goals as goal

pub returns-in_default-clause-answering : goal.returns-in_default-clause-answering
returns-in_default-clause-answering g c = without_memory _ _ _ _ _ _ (reached_pieces _ _ _ _ c.loop-rest.invariant.reached) c.loop-rest.invariant.steady

pub returns-then-is_err-clause-answering : goal.returns-then-is_err-clause-answering
returns-then-is_err-clause-answering g c =
    let later = lines c.split_line.result.1.now in
    let told = answers_of c.loop-rest.session c.loop-rest.number in
    let begun = text_of_line c.in-Ok.next (told (c.split_line.result.0.now ∷ later)) (answers_of c.answer.new.session (c.loop-rest.number + 1) later) c.answer.new.out.items
    (λ e. c.in-Ok.ensures.more (ap Ok e) later) (λ e. c.in-Ok.ensures.refused (ap Ok e) later) in
    let part = when_err c.write_all.result c.is_err.result (AppendsPart (g.K.Sink.held c.loop-rest.sink) (g.K.Sink.held c.write_all.new.sink) c.deref.result.now)
    c.is_err.ensures.value c.if-is_err.true c.write_all.ensures.part in
    let rose = when_err c.write_all.result c.is_err.result (Rose (g.K.Sink.faults c.loop-rest.sink) (g.K.Sink.faults c.write_all.new.sink) (g.K.Sink.at_last c.write_all.new.sink))
    c.is_err.ensures.value c.if-is_err.true c.write_all.ensures.cause.failed in
    at_a_fault _ _ _ _ _ _
    (reached_part _ _ _ _ _ c.answer.new.out.items begun.0 c.loop-rest.invariant.reached
    (ap (λ (ls : List (List ℕ)). text (told ls)) c.split_line.ensures.lines ∙ begun.1)
    (subst (AppendsPart _ _) c.deref.ensures.value part))
    (omega (arith, c.write_all.ensures.cause.later, c.loop-rest.invariant.steady))
    (rose_from _ _ _ _ c.loop-rest.invariant.steady rose)

pub returns-in-Refused-clause-answering : goal.returns-in-Refused-clause-answering
returns-in-Refused-clause-answering g c =
    let at_end = ap (answers_of c.loop-rest.session c.loop-rest.number) c.split_line.ensures.lines
    ∙ c.in-Ok.ensures.refused (ap Ok c.in-Refused.is) (lines c.split_line.result.1.now) in
    let appends = when_ok c.write_all.result c.is_err.result (Appends (g.K.Sink.held c.loop-rest.sink) (g.K.Sink.held c.write_all.new.sink) c.deref.result.now)
    c.is_err.ensures.value c.if-is_err.false c.write_all.ensures.appends in
    let steady = when_ok c.write_all.result c.is_err.result (g.K.Sink.faults c.write_all.new.sink ≡ g.K.Sink.faults c.loop-rest.sink)
    c.is_err.ensures.value c.if-is_err.false c.write_all.ensures.cause.steady in
    at_its_end _ _ _ _ _ _ _
    (reached_ending _ _ _ _ c.loop-rest.invariant.reached ∙ ap (λ (a : Answers). a.ending) at_end)
    (reached_refused _ _ _ _ _ c.answer.new.out.items c.deref.result.now c.loop-rest.invariant.reached at_end c.deref.ensures.value appends)
    (steady ∙ c.loop-rest.invariant.steady)

pub loop-rest-preserved : goal.loop-rest-preserved
loop-rest-preserved g c =
    let later = lines c.split_line.result.1.now in
    let next = answers_of c.answer.new.session (c.loop-rest.number + 1) later in
    let appends = when_ok c.write_all.result c.is_err.result (Appends (g.K.Sink.held c.loop-rest.sink) (g.K.Sink.held c.write_all.new.sink) c.deref.result.now)
    c.is_err.ensures.value c.if-is_err.false c.write_all.ensures.appends in
    let steady = when_ok c.write_all.result c.is_err.result (g.K.Sink.faults c.write_all.new.sink ≡ g.K.Sink.faults c.loop-rest.sink)
    c.is_err.ensures.value c.if-is_err.false c.write_all.ensures.cause.steady in
    record {
      reached = reached_more _ _ _ _ _ next c.deref.result.now c.loop-rest.invariant.reached
          (ap (answers_of c.loop-rest.session c.loop-rest.number) c.split_line.ensures.lines
          ∙ c.in-Ok.ensures.more (ap Ok c.in-More.is) later
          ∙ ap (λ (p : List ℕ). before p next) (sym c.deref.ensures.value))
          appends;
      numbers = omega (arith, c.split_line.ensures.shorter, c.loop-rest.invariant.numbers);
      steady = steady ∙ c.loop-rest.invariant.steady;
      tallied = up_to_more _ _ _ _ _ _ _ c.loop-rest.invariant.tallied
          (subst (λ (ls : List (List ℕ)). IsTalliedUpTo c.args.by.now.workers (calculations_by c.loop-rest.session ls) (calculations_by c.answer.new.session later) (tally_of c.loop-rest.ends) (tally_of c.answer.new.ends))
          (sym c.split_line.ensures.lines) (c.in-Ok.ensures.more_tallied (ap Ok c.in-More.is) later));
    }

pub returns-clause-answering : goal.returns-clause-answering
returns-clause-answering g c =
    let none : length c.loop-rest.rest.now ≡ 0 = grind arith in
    let at_end = no_more c.loop-rest.session c.loop-rest.number c.loop-rest.rest.now none in
    at_its_end _ _ _ _ _ _ _
    (reached_ending _ _ _ _ c.loop-rest.invariant.reached ∙ ap (λ (a : Answers). a.ending) at_end)
    (reached_done _ _ _ _ c.loop-rest.invariant.reached at_end)
    c.loop-rest.invariant.steady

pub returns-in-Refused-clause-tallied : goal.returns-in-Refused-clause-tallied
returns-in-Refused-clause-tallied g c =
    let later = lines c.split_line.result.1.now in
    up_to_end _ _ _ _ _
    (up_to_more _ _ _ _ _ _ _ c.loop-rest.invariant.tallied
    (subst (λ (ls : List (List ℕ)). IsTalliedUpTo c.args.by.now.workers (calculations_by c.loop-rest.session ls) [] (tally_of c.loop-rest.ends) (tally_of c.answer.new.ends))
    (sym c.split_line.ensures.lines) (c.in-Ok.ensures.refused_tallied (ap Ok c.in-Refused.is) later)))
    refl

pub returns-clause-tallied : goal.returns-clause-tallied
returns-clause-tallied g c =
    let none : length c.loop-rest.rest.now ≡ 0 = grind arith in
    up_to_end _ _ _ _ _ c.loop-rest.invariant.tallied (no_more_made c.loop-rest.session c.loop-rest.rest.now none)

pub loop-rest-init : goal.loop-rest-init
loop-rest-init g c = record {
  reached = reached_none _ _;
  numbers = c.requires;
  steady = refl;
  tallied = up_to_none _ _ _;
}
