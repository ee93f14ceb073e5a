use Rattle.std.proofs.Common.{◌≤◌, ◌<◌, length, All, cond, [], Some, None, ap, sym, subst, ◌∙◌, arith}
use Rattle.std.proofs.lemmas.Result.{err_from_is_err_and}
use Rattle.std.proofs.lemmas.List.Elements.{All-nil, All-same}
use Rattle.sdmp_laws.specs.Order.{degree}
use Rattle.canonical_terms.specs.View.{sum_of}
use Rattle.text_laws.specs.Grammar.{spell_signed}
use Rattle.text_laws.specs.Summands.{summands, or_else}
use Rattle.text_laws.proofs.TreeTokens.{signed_here}
use Rattle.poly_text.proofs.Pushing.{monos_pushed, coefs_pushed}
use Rattle.poly_text.proofs.TermLoop.{TermsLeft, Ended, begins, unknown_at, none_is, step, next_signed, ended, fault_unknown, judged, within_too}
use Rattle.poly_text.proofs.terms.read_terms.Goals as goal

pub loop-term-init : goal.loop-term-init
loop-term-init g c = record {
  within = c.first_term-start.ensures.bound;
  belongs = All-same (λ t. g.R.CoeffRing.belongs (g.R.CoeffRing.characteristic c.args.ring) t.coef) c.new-terms.result.items [] c.new-terms.ensures.items (All-nil _);
  degrees = All-same (λ t. degree (g.M.Monomial.vector t.mono) ≤ g.M.Monomial.LIM) c.new-terms.result.items [] c.new-terms.ensures.items (All-nil _);
  left = λ t s.
      subst (λ ts. TermsLeft c.args.names.now c.args.bytes.now (g.R.CoeffRing.characteristic c.args.ring) g.M.Monomial.LIM (summands t) c.first_term-start.result.at c.first_term-start.result.negative 0 None None (sum_of g.M.Monomial.vector g.R.CoeffRing.value ts)) (sym c.new-terms.ensures.items)
      (begins c.args.names.now c.args.bytes.now (g.R.CoeffRing.characteristic c.args.ring) g.M.Monomial.LIM t c.first_term-start.result.at c.first_term-start.result.negative s
      c.first_term-start.ensures.bound c.first_term-start.ensures.place c.first_term-start.ensures.sign);
}

pub returns-in-Err-clause-reads : goal.returns-in-Err-clause-reads
returns-in-Err-clause-reads g c = λ t s.
    let V = g.M.Monomial.vector in
    let A = g.R.CoeffRing.value in
    let p = g.R.CoeffRing.characteristic c.args.ring in
    let lim = g.M.Monomial.LIM in
    let names = c.args.names.now in
    let bytes = c.args.bytes.now in
    let all = summands t in
    let l = c.loop-term.invariant.left t s in
    let a = c.in-Err.ensures.reads l.product (spell_signed l.others) l.found.total l.is_product (signed_here l.others l.are_signed) l.spelled l.found.total_is in
    fault_unknown names p lim c.in-Err.unknown.at t
    (unknown_at V A names bytes p lim all c.loop-term.start.at c.loop-term.start.negative c.loop-term.sum c.loop-term.degree_at c.loop-term.coefficient_at (sum_of V A c.loop-term.terms.items) c.in-Err.unknown l a)

pub returns-in_err-push_term-clause-reads : goal.returns-in_err-push_term-clause-reads
returns-in_err-push_term-clause-reads g c = λ t s.
    let p = err_from_is_err_and c.from_residual.result c.from_residual.ensures.1 in
    rw (p.1, p.2, c.in_err-push_term.ensures.fault) tt

pub loop-term-smaller : goal.loop-term-smaller
loop-term-smaller g c =
    let after : c.in-Ok.term.next < c.behind_sign-start.result.at = c.behind_sign-start.ensures.behind in
    let from : c.loop-term.start.at ≤ c.in-Ok.term.next = c.in-Ok.ensures.bound.0 in
    let more : c.in-Ok.term.next < length c.args.bytes.now = omega (arith, c.if-term-bytes.false, c.in-Ok.ensures.bound.1) in
    omega (arith, after, from, more, c.behind_sign-start.ensures.bound)

pub loop-term-preserved : goal.loop-term-preserved
loop-term-preserved g c = record {
  within = c.behind_sign-start.ensures.bound;
  belongs = coefs_pushed (λ a. g.R.CoeffRing.belongs (g.R.CoeffRing.characteristic c.args.ring) a) c.loop-term.terms.items c.push_term.new.terms.items c.in-Ok.term.mono c.in-Ok.term.coef c.in_ok-push_term.ensures.pushed c.loop-term.invariant.belongs c.in-Ok.ensures.belongs;
  degrees = monos_pushed (λ m. degree (g.M.Monomial.vector m) ≤ g.M.Monomial.LIM) c.loop-term.terms.items c.push_term.new.terms.items c.in-Ok.term.mono c.in-Ok.term.coef c.in_ok-push_term.ensures.pushed c.loop-term.invariant.degrees c.in-Ok.ensures.degree;
  left = λ t s.
      let V = g.M.Monomial.vector in
      let A = g.R.CoeffRing.value in
      let p = g.R.CoeffRing.characteristic c.args.ring in
      let lim = g.M.Monomial.LIM in
      let names = c.args.names.now in
      let bytes = c.args.bytes.now in
      let all = summands t in
      let l = c.loop-term.invariant.left t s in
      let a = c.in-Ok.ensures.reads l.product (spell_signed l.others) l.found.total l.is_product (signed_here l.others l.are_signed) l.spelled l.found.total_is in
      let k = step V A names bytes p lim all c.loop-term.start.at c.loop-term.start.negative c.loop-term.sum c.loop-term.degree_at c.loop-term.coefficient_at c.first_of-degree_at.result c.first_of-coefficient_at.result
      c.loop-term.terms.items c.push_term.new.terms.items c.in-Ok.term l c.loop-term.invariant.within c.in-Ok.ensures.bound.0 c.in-Ok.ensures.bound.1 a
      (c.first_of-degree_at.ensures ∙ ap (λ b. or_else c.loop-term.degree_at (cond b (Some c.loop-term.start.at) None)) (none_is c.in-Ok.term.mono c.is_none.result c.is_none.ensures))
      (c.first_of-coefficient_at.ensures ∙ ap (λ b. or_else c.loop-term.coefficient_at (cond b (Some c.loop-term.start.at) None)) (none_is c.in-Ok.term.coef c.is_none-in-loop-term.result c.is_none-in-loop-term.ensures)) c.in_ok-push_term.ensures.pushed in
      next_signed names bytes p lim all c.in-Ok.term.next c.behind_sign-start.result.at c.behind_sign-start.result.negative c.in-Ok.term.sum c.first_of-degree_at.result c.first_of-coefficient_at.result (sum_of V A c.push_term.new.terms.items) k
      (omega (arith, c.if-term-bytes.false, c.in-Ok.ensures.bound.1)) c.behind_sign-start.ensures.bound c.behind_sign-start.ensures.place c.behind_sign-start.ensures.sign;
}

pub returns-clause-reads : goal.returns-clause-reads
returns-clause-reads g c = λ t s.
    let V = g.M.Monomial.vector in
    let A = g.R.CoeffRing.value in
    let p = g.R.CoeffRing.characteristic c.args.ring in
    let lim = g.M.Monomial.LIM in
    let names = c.args.names.now in
    let bytes = c.args.bytes.now in
    let all = summands t in
    let l = c.loop-term.invariant.left t s in
    let a = c.in-Ok.ensures.reads l.product (spell_signed l.others) l.found.total l.is_product (signed_here l.others l.are_signed) l.spelled l.found.total_is in
    let k = step V A names bytes p lim all c.loop-term.start.at c.loop-term.start.negative c.loop-term.sum c.loop-term.degree_at c.loop-term.coefficient_at c.first_of-degree_at.result c.first_of-coefficient_at.result
    c.loop-term.terms.items c.push_term.new.terms.items c.in-Ok.term l c.loop-term.invariant.within c.in-Ok.ensures.bound.0 c.in-Ok.ensures.bound.1 a
    (c.first_of-degree_at.ensures ∙ ap (λ b. or_else c.loop-term.degree_at (cond b (Some c.loop-term.start.at) None)) (none_is c.in-Ok.term.mono c.is_none.result c.is_none.ensures))
    (c.first_of-coefficient_at.ensures ∙ ap (λ b. or_else c.loop-term.coefficient_at (cond b (Some c.loop-term.start.at) None)) (none_is c.in-Ok.term.coef c.is_none-in-loop-term.result c.is_none-in-loop-term.ensures)) c.in_ok-push_term.ensures.pushed in
    let e : Ended names p lim t c.first_of-degree_at.result c.first_of-coefficient_at.result (sum_of V A c.push_term.new.terms.items) = ended names bytes p lim t c.in-Ok.term.next c.in-Ok.term.sum c.first_of-degree_at.result c.first_of-coefficient_at.result (sum_of V A c.push_term.new.terms.items) k (omega (arith, c.if-term-bytes.true)) in
    judged (λ v. sum_of V A v.items) names p lim t c.first_of-degree_at.result c.first_of-coefficient_at.result c.push_term.new.terms c.within_bounds.result e c.within_bounds.ensures

pub returns-clause-belongs : goal.returns-clause-belongs
returns-clause-belongs g c =
    within_too (λ v. All (λ t. g.R.CoeffRing.belongs (g.R.CoeffRing.characteristic c.args.ring) t.coef) v.items) _ _ c.push_term.new.terms c.within_bounds.result c.within_bounds.ensures
    (coefs_pushed (λ a. g.R.CoeffRing.belongs (g.R.CoeffRing.characteristic c.args.ring) a) c.loop-term.terms.items c.push_term.new.terms.items c.in-Ok.term.mono c.in-Ok.term.coef c.in_ok-push_term.ensures.pushed c.loop-term.invariant.belongs c.in-Ok.ensures.belongs)

pub returns-clause-degrees : goal.returns-clause-degrees
returns-clause-degrees g c =
    within_too (λ v. All (λ t. degree (g.M.Monomial.vector t.mono) ≤ g.M.Monomial.LIM) v.items) _ _ c.push_term.new.terms c.within_bounds.result c.within_bounds.ensures
    (monos_pushed (λ m. degree (g.M.Monomial.vector m) ≤ g.M.Monomial.LIM) c.loop-term.terms.items c.push_term.new.terms.items c.in-Ok.term.mono c.in-Ok.term.coef c.in_ok-push_term.ensures.pushed c.loop-term.invariant.degrees c.in-Ok.ensures.degree)
