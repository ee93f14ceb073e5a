use Rattle.std.proofs.Common.{Vec, Global, Err, ap, ◌∙◌, arith}
use Rattle.std.proofs.lemmas.Result.{err_from_is_err_and}
use Rattle.canonical_terms.specs.View.{sum_of}
use Rattle.canonical_terms.specs.declared.term.TermOf.{TermOf}
use Rattle.poly_text.proofs.Reduced.{syntax_fault_read, fault_read, terms_read, norm_read}
use Rattle.poly_text.proofs.read.read_poly.Goals as goal

pub returns-in-Some-clause-fault : goal.returns-in-Some-clause-fault
returns-in-Some-clause-fault g c = λ _.
    syntax_fault_read g.M.Monomial.order c.args.names.now (g.R.CoeffRing.characteristic c.args.ring) g.M.Monomial.LIM c.in-Some.at c.args.bytes.now c.syntax_fault.result c.syntax_fault.ensures c.in-Some.is

pub returns-in_err-terms-clause-fault : goal.returns-in_err-terms-clause-fault
returns-in_err-terms-clause-fault g c =
    let p = err_from_is_err_and c.from_residual.result c.from_residual.ensures.1 in
    rw (p.1, p.2) (λ k.
    fault_read {X = Vec (TermOf g.row.M.Denot g.row.R-E.Denot) Global} (λ v. sum_of g.M.Monomial.vector g.R.CoeffRing.value v.items) g.M.Monomial.order c.args.names.now (g.R.CoeffRing.characteristic c.args.ring) g.M.Monomial.LIM c.args.bytes.now c.syntax_fault.result c.in_err-terms.field-0.0
    c.syntax_fault.ensures c.in_default.is c.in_err-terms.ensures.reads k)

pub returns-in-Ok-clause-terms : goal.returns-in-Ok-clause-terms
returns-in-Ok-clause-terms g c =
    terms_read (λ v. sum_of g.M.Monomial.vector g.R.CoeffRing.value v.items) g.M.Monomial.order c.args.names.now (g.R.CoeffRing.characteristic c.args.ring) g.M.Monomial.LIM c.args.bytes.now c.syntax_fault.result c.in_ok-terms.terms _
    c.syntax_fault.ensures c.in_default.is c.in_ok-terms.ensures.reads c.in-Ok.ensures.terms

pub unreachable-requires : goal.unreachable-requires
unreachable-requires g c =
    let bound = c.from_terms.ensures.bound (c.in-Err-CoefficientBound.is ∙ ap (λ f. Err f) c.in-Err-CoefficientBound.field-0-is) in
    let within = norm_read {X = Vec (TermOf g.row.M.Denot g.row.R-E.Denot) Global} (λ v. sum_of g.M.Monomial.vector g.R.CoeffRing.value v.items) c.args.names.now (g.R.CoeffRing.characteristic c.args.ring) g.M.Monomial.LIM c.args.bytes.now c.syntax_fault.result c.in_ok-terms.terms
    c.syntax_fault.ensures c.in_default.is c.in_ok-terms.ensures.reads bound.0 in
    omega (arith, bound.1, within)
