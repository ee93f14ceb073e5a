use Rattle.std.proofs.Common.{rules, ◌≡◌, ◌<◌, ◌≤◌, ℕ, List, length, map, vec_len, MatchResult, refl, sym, ap, subst, ◌∙◌, arith}
use Rattle.std.proofs.lemmas.List.{length-map}
use Rattle.sdmp_laws.specs.Poly.{Term, IsPoly}
use Rattle.sdmp_laws.specs.Canonical.{IsCanonical}
use Rattle.sdmp_laws.specs.Division.{Division}
use Rattle.sdmp_laws.specs.LongDivision.{quotient_list}
use Rattle.division_laws.specs.Outcome.{division_of}
use Rattle.divide_core.specs.Answer.{IsAnswer, IsRefusal}
use Rattle.canonical_terms.specs.View.{term_of}
use Rattle.term_ring.specs.Names.{ring_name, reader_name}
use Rattle.dividing_rounds.specs.Runs.{DivideRun}
use Rattle.divide_merge.specs.Names.{RowIdentity, row_identity}
use Rattle.divide_workers.specs.Rounds.{IsTeam, rounds_bound}
use Rattle.divide_workers.proofs.Hiring.{nothing_done, its_division, its_workers, team_of_merge, has_place, readers_scripts, readers_count, division_of_merge, workers_of_merge}
use Rattle.divide_workers.proofs.Answering.{accepted_from, from_both}
use Rattle.divide_workers.proofs.threaded.divided.Goals as goal

pub new-requires-clause-fit : goal.new-requires-clause-fit
new-requires-clause-fit g c κs within =
    let left = length-map c.terms-dividend.result.now (term_of g.M.Monomial.vector g.R.CoeffRing.value) in
    let right = length-map c.terms-divisor.result.now (term_of g.M.Monomial.vector g.R.CoeffRing.value) in
    let f = ap (λ (L : List Term). length L) c.terms-dividend.ensures.view in
    let h = ap (λ (L : List Term). length L) c.terms-divisor.ensures.view in
    let a = c.if-dividend-ge-TERMS.false in
    let b = c.if-divisor-ge-TERMS.false in
    record {
      dividend = c.terms-dividend.ensures.canonical;
      divisor = subst (λ p. IsCanonical g.M.Monomial.order p g.M.Monomial.VARS g.M.Monomial.LIM c.args.job.now.g.now.list) (sym c.requires.moduli) c.terms-divisor.ensures.canonical;
      accepted = accepted_from (division_of c.args.job.now.mode g.M.Monomial.order g.M.Monomial.VARS c.args.job.now.f.now c.args.job.now.g.now) c.terms-dividend.ensures.canonical.poly (subst (λ p. IsPoly g.M.Monomial.order p g.M.Monomial.VARS c.args.job.now.g.now.list) (sym c.requires.moduli) c.terms-divisor.ensures.canonical.poly) c.requires.nonzero c.requires.unit;
      few_dividend = omega arith;
      few_divisor = omega arith;
    }

pub new-requires-2-clause-accepted : goal.new-requires-2-clause-accepted
new-requires-2-clause-accepted g c κs within =
    accepted_from (division_of c.args.job.now.mode g.M.Monomial.order g.M.Monomial.VARS c.args.job.now.f.now c.args.job.now.g.now) c.terms-dividend.ensures.canonical.poly (subst (λ p. IsPoly g.M.Monomial.order p g.M.Monomial.VARS c.args.job.now.g.now.list) (sym c.requires.moduli) c.terms-divisor.ensures.canonical.poly) c.requires.nonzero c.requires.unit

pub new-requires-2-clause-scripts : goal.new-requires-2-clause-scripts
new-requires-2-clause-scripts g c κs within = readers_scripts c.in_ok-rings.ensures.read

pub finish-requires-clause-division : goal.finish-requires-clause-division
finish-requires-clause-division g c κs within = its_division c.in_ok-merge.merge _ _ c.in_ok-merge.ensures.run

pub finish-requires-clause-rings : goal.finish-requires-clause-rings
finish-requires-clause-rings g c κs within =
    let e : c.as_slice.result.now ≡ c.in_ok-rings.field-0.rings.items = search rules in
    c.in_ok-merge.ensures.rings ∙ c.in_ok-rings.ensures.read.same ∙ ap (map ring_name) (sym e)

pub finish-requires-clause-row : goal.finish-requires-clause-row
finish-requires-clause-row g c κs within = c.in_ok-merge.ensures.row ∙ c.in_ok-rings.ensures.publisher

pub finish-requires-clause-team : goal.finish-requires-clause-team
finish-requires-clause-team g c κs within =
    let e : c.as_mut_slice.result.now ≡ c.in_ok-rings.field-0.workers.items = search rules in
    subst (λ ws. IsTeam c.in_ok-merge.merge (map (λ w. w.worker.sender) ws)) (sym e)
    (team_of_merge c.in_ok-merge.merge _ _ c.in_ok-merge.ensures.run (map (λ w. w.worker.sender) c.in_ok-rings.field-0.workers.items) (map ring_name c.in_ok-rings.field-0.rings.items) (row_identity c.in_ok-rings.field-0.row) (c.in_ok-merge.ensures.rings ∙ c.in_ok-rings.ensures.read.same) (c.in_ok-merge.ensures.row ∙ c.in_ok-rings.ensures.publisher) c.in_ok-rings.ensures.members c.in_ok-rings.ensures.fresh)

pub finish-requires-clause-places : goal.finish-requires-clause-places
finish-requires-clause-places g c κs within =
    (c.requires.places, has_place c.in_ok-merge.merge _ _ c.in_ok-merge.ensures.run (subst (λ n. 0 < n) (sym (ap (λ (r : RowIdentity). r.places) (c.in_ok-merge.ensures.row ∙ c.in_ok-rings.ensures.publisher) ∙ c.in_ok-rings.ensures.places)) c.requires.places))

pub finish-requires-clause-begun : goal.finish-requires-clause-begun
finish-requires-clause-begun g c κs within = nothing_done c.in_ok-merge.merge.run _ _ c.in_ok-merge.ensures.run

pub answer-requires-clause-mode : goal.answer-requires-clause-mode
answer-requires-clause-mode g c κs within =
    ap (λ (d : Division). d.mode) (division_of_merge c.in_ok-rings.ensures.read g.M.Monomial.LIM c.in_ok-finished.finished.merge c.requires.workers c.whole.ensures.sound (c.in_ok-finished.ensures.rings ∙ c.in_ok-merge.ensures.rings))

pub returns-clause-answer : goal.returns-clause-answer
returns-clause-answer g c =
    let same = division_of_merge c.in_ok-rings.ensures.read g.M.Monomial.LIM c.in_ok-finished.finished.merge c.requires.workers c.whole.ensures.sound (c.in_ok-finished.ensures.rings ∙ c.in_ok-merge.ensures.rings) in
    subst (λ (d : Division). MatchResult c.answer.result (λ a. IsAnswer d a.answer) (λ fault. IsRefusal d fault)) same c.answer.ensures.answer

pub returns-clause-rounds : goal.returns-clause-rounds
returns-clause-rounds g c =
    let d = division_of c.args.job.now.mode g.M.Monomial.order g.M.Monomial.VARS c.args.job.now.f.now c.args.job.now.g.now in
    let m = c.in_ok-merge.merge in
    let e = c.in_ok-finished.finished in
    let first : m.run.state.division ≡ d = its_division m _ _ c.in_ok-merge.ensures.run in
    let long : vec_len c.in_ok-rings.field-0.readers ≡ length c.in_ok-rings.field-0.readers.items = (let k = c.in_ok-rings.field-0.readers.ok.0 in omega (arith, k)) in
    let count : m.run.state.workers ≡ c.args.workers = its_workers m _ _ c.in_ok-merge.ensures.run ∙ long ∙ readers_count c.in_ok-rings.ensures.read reader_name c.in_ok-rings.field-0.readers.items refl in
    from_both (λ a. a.rounds ≡ e.rounds) (λ _. e.merge.run.state.q ≡ quotient_list e.merge.run.state.division) (λ a. a.rounds ≤ rounds_bound d c.args.workers) c.answer.result
    (λ a p _. subst (λ n. n ≤ rounds_bound d c.args.workers) (sym p)
    (subst (λ (k : ℕ). e.rounds ≤ rounds_bound d k) count
    (subst (λ (x : Division). e.rounds ≤ rounds_bound x m.run.state.workers) first c.in_ok-finished.ensures.rounds)))
    c.answer.ensures.rounds c.answer.ensures.found

pub returns-clause-terms : goal.returns-clause-terms
returns-clause-terms g c =
    let d = division_of c.args.job.now.mode g.M.Monomial.order g.M.Monomial.VARS c.args.job.now.f.now c.args.job.now.g.now in
    let e = c.in_ok-finished.finished in
    let same = division_of_merge c.in_ok-rings.ensures.read g.M.Monomial.LIM e.merge c.requires.workers c.whole.ensures.sound (c.in_ok-finished.ensures.rings ∙ c.in_ok-merge.ensures.rings) in
    from_both (λ a. a.last ≡ e.last) (λ _. e.merge.run.state.q ≡ quotient_list e.merge.run.state.division) (λ a. a.last.terms ≡ length (quotient_list d)) c.answer.result
    (λ a p found. ap (λ l. l.terms) p ∙ c.in_ok-finished.ensures.terms ∙ ap (λ (L : List Term). length L) (found ∙ ap quotient_list same))
    c.answer.ensures.last c.answer.ensures.found

pub returns-clause-receipt : goal.returns-clause-receipt
returns-clause-receipt g c =
    let d = division_of c.args.job.now.mode g.M.Monomial.order g.M.Monomial.VARS c.args.job.now.f.now c.args.job.now.g.now in
    let e = c.in_ok-finished.finished in
    let rings = c.in_ok-finished.ensures.rings ∙ c.in_ok-merge.ensures.rings in
    let same = division_of_merge c.in_ok-rings.ensures.read g.M.Monomial.LIM e.merge c.requires.workers c.whole.ensures.sound rings in
    let count = workers_of_merge c.in_ok-rings.ensures.read g.M.Monomial.LIM e.merge c.whole.ensures.sound rings in
    from_both (λ a. a.last ≡ e.last) (λ a. a.last ≡ e.last) (λ a. (a.last.merge.value.run.state.division ≡ d) × (a.last.merge.value.run.state.workers ≡ c.args.workers)) c.answer.result
    (λ a p q.
    let run = ap (λ l. l.merge.value.run) p ∙ c.in_ok-finished.ensures.receipt in
    (ap (λ (r : DivideRun). r.state.division) run ∙ same, ap (λ (r : DivideRun). r.state.workers) run ∙ count))
    c.answer.ensures.last c.answer.ensures.last
