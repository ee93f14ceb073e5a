use Rattle.std.proofs.Common.{List, sym, subst, ◌∙◌}
use Rattle.sdmp_laws.specs.Poly.{Term}
use Rattle.division_laws.specs.Outcome.{IsOutcome, HasQuotient, HasRemainder}
use Rattle.divide_core.specs.Answer.{IsAnswer}
use Rattle.canonical_terms.specs.View.{term_of}
use Rattle.divide_merge.specs.Verdicts.{IsFinal}
use Rattle.divide_merge.specs.Merges.{IsDone, free_places}
use Rattle.divide_merge.specs.declared.answer.DivideAdvanceOf.TheVariants as answer
use Rattle.divide_workers.proofs.Bounding.{all_found, all_found_none, gives_quotient, gives_remainder, gives_none, passes_bound, passes_terms}
use Rattle.divide_workers.proofs.Answering.{last_cause}
use Rattle.divide_workers.proofs.threaded.answer.Goals as goal
use Rattle.divide_workers.proofs.threaded.answer.Goals.{in-Finished, in-Exact, in-Remainder, in-NoQuotient}

pub returns-in-PassedBound-clause-answer : goal.returns-in-PassedBound-clause-answer
returns-in-PassedBound-clause-answer g c =
    let m = c.args.finished.merge in
    let cause = last_cause g.M.Monomial.vector g.R.CoeffRing.value g.M.Monomial.LIM m c.requires.sound c.args.finished.last.answer (answer.PassedBound c.in-PassedBound.term) c.requires.answer (sym c.in-PassedBound.is ∙ c.answer.ensures) in
    passes_bound g.M.Monomial.LIM m c.requires.sound (term_of g.M.Monomial.vector g.R.CoeffRing.value c.in-PassedBound.term) (free_places m) m.spare cause.1

pub returns-in-PassedTerms-clause-answer : goal.returns-in-PassedTerms-clause-answer
returns-in-PassedTerms-clause-answer g c =
    let m = c.args.finished.merge in
    let cause = last_cause g.M.Monomial.vector g.R.CoeffRing.value g.M.Monomial.LIM m c.requires.sound c.args.finished.last.answer (answer.PassedTerms c.in-PassedTerms.term) c.requires.answer (sym c.in-PassedTerms.is ∙ c.answer.ensures) in
    passes_terms g.M.Monomial.LIM m c.requires.sound (term_of g.M.Monomial.vector g.R.CoeffRing.value c.in-PassedTerms.term) (free_places m) m.spare cause.1

pub unreachable-requires : goal.unreachable-requires
unfolding IsFinal
unreachable-requires g c =
    (last_cause g.M.Monomial.vector g.R.CoeffRing.value g.M.Monomial.LIM c.args.finished.merge c.requires.sound c.args.finished.last.answer (answer.Blocked c.in-Blocked.field-0) c.requires.answer (sym c.in-Blocked.is ∙ c.answer.ensures)).0

pub unreachable-requires-in-RowFull : goal.unreachable-requires-in-RowFull
unfolding IsFinal
unreachable-requires-in-RowFull g c =
    (last_cause g.M.Monomial.vector g.R.CoeffRing.value g.M.Monomial.LIM c.args.finished.merge c.requires.sound c.args.finished.last.answer answer.RowFull c.requires.answer (sym c.in-RowFull.is ∙ c.answer.ensures)).0

pub unreachable-requires-in-OutFull : goal.unreachable-requires-in-OutFull
unfolding IsFinal
unreachable-requires-in-OutFull g c =
    (last_cause g.M.Monomial.vector g.R.CoeffRing.value g.M.Monomial.LIM c.args.finished.merge c.requires.sound c.args.finished.last.answer answer.OutFull c.requires.answer (sym c.in-OutFull.is ∙ c.answer.ensures)).0

pub returns-clause-answer : goal.returns-clause-answer
returns-clause-answer g c =
    let m = c.args.finished.merge in
    elim c.match-answer.branch [
      | in-Finished w ↦
          (let cause = last_cause g.M.Monomial.vector g.R.CoeffRing.value g.M.Monomial.LIM m c.requires.sound c.args.finished.last.answer answer.Finished c.requires.answer (sym w.in-Finished.is ∙ c.answer.ensures) in
          elim w.match-mode.branch [
            | in-Exact w' ↦
                subst (λ a. IsAnswer m.run.state.division a) (sym (w.answer-is ∙ w'.answer-is))
                (w.finish-q.ensures.quotient_modulus, subst (λ (L : List Term). IsOutcome m.run.state.division (HasQuotient L)) (sym w.finish-q.ensures.quotient) (gives_quotient g.M.Monomial.LIM m c.requires.sound (free_places m) m.spare cause.1 (c.requires.mode ∙ w'.in-Exact.is)))
            | in-Remainder w' ↦
                subst (λ a. IsAnswer m.run.state.division a) (sym (w.answer-is ∙ w'.answer-is)) (
                  w.finish-q.ensures.quotient_modulus,
                  w.finish-q.ensures.remainder_modulus,
                  subst (λ (L : List Term). IsOutcome m.run.state.division (HasRemainder L w.finish-q.result.1.list)) (sym w.finish-q.ensures.quotient)
                      (subst (λ (L : List Term). IsOutcome m.run.state.division (HasRemainder m.run.state.q L)) (sym w.finish-q.ensures.remainder) (gives_remainder g.M.Monomial.LIM m c.requires.sound (free_places m) m.spare cause.1 (c.requires.mode ∙ w'.in-Remainder.is))),
                )
          ])
      | in-NoQuotient w ↦
          (let cause = last_cause g.M.Monomial.vector g.R.CoeffRing.value g.M.Monomial.LIM m c.requires.sound c.args.finished.last.answer (answer.NoQuotient w.in-NoQuotient.at) c.requires.answer (sym w.in-NoQuotient.is ∙ c.answer.ensures) in
          subst (λ a. IsAnswer m.run.state.division a) (sym w.answer-is) (gives_none g.M.Monomial.LIM m c.requires.sound (g.M.Monomial.vector w.in-NoQuotient.at) (free_places m) m.spare cause.1))
    ]

pub returns-clause-found : goal.returns-clause-found
returns-clause-found g c =
    let m = c.args.finished.merge in
    elim c.match-answer.branch [
      | in-Finished w ↦ all_found g.M.Monomial.LIM m c.requires.sound (free_places m) m.spare
          (last_cause g.M.Monomial.vector g.R.CoeffRing.value g.M.Monomial.LIM m c.requires.sound c.args.finished.last.answer answer.Finished c.requires.answer (sym w.in-Finished.is ∙ c.answer.ensures)).1
      | in-NoQuotient w ↦ all_found_none g.M.Monomial.LIM m c.requires.sound (g.M.Monomial.vector w.in-NoQuotient.at) (free_places m) m.spare
          (last_cause g.M.Monomial.vector g.R.CoeffRing.value g.M.Monomial.LIM m c.requires.sound c.args.finished.last.answer (answer.NoQuotient w.in-NoQuotient.at) c.requires.answer (sym w.in-NoQuotient.is ∙ c.answer.ensures)).1
    ]

pub returns-clause-done : goal.returns-clause-done
returns-clause-done g c =
    elim c.match-answer.branch [
      | in-Finished w ↦ subst IsDone (sym w.in-Finished.is ∙ c.answer.ensures) tt
      | in-NoQuotient w ↦ subst IsDone (sym w.in-NoQuotient.is ∙ c.answer.ensures) tt
    ]
