use Rattle.std.proofs.Common.{◌≡◌, ◌++◌, ◌∷◌, ◌+◌, List, ℕ, drop, sym, ap, subst, ◌∙◌, append_assoc, false}
use Rattle.std.proofs.lemmas.List.{at_drop_more}
use Rattle.std.proofs.lemmas.Result.{err_from_is_err_and}
use Rattle.canonical_terms.specs.View.{term_of, sum_of}
use Rattle.canonical_terms.specs.declared.term.TermOf.{TermOf}
use Rattle.text_laws.specs.Canonical.{later_text, term_text}
use Rattle.poly_text.specs.Printed.{Extends}
use Rattle.poly_text.proofs.Extending.{extends_more, extends_twice}
use Rattle.poly_text.proofs.write.write_later.Goals as goal

pub loop-t-preserved : goal.loop-t-preserved
loop-t-preserved g c =
    let i = c.loop-t.t-index in
    let t = c.t-item.result in
    let F : List (TermOf g.row.M.Denot g.row.R-E.Denot) → List ℕ = λ ts. later_text c.args.names.now (sum_of g.M.Monomial.vector g.R.CoeffRing.value ts) in
    let T : List ℕ = term_text c.args.names.now false (term_of g.M.Monomial.vector g.R.CoeffRing.value t) in
    let o : c.write_term.new.out.items ≡ c.loop-t.out.items ++ T = c.in_ok-write_term.ensures.ok in
    let e : F (drop i c.args.terms.now) ≡ T ++ F (drop (i + 1) c.args.terms.now) =
    at_drop_more F c.args.terms.now i t c.loop-t-test.true ∙ ap (λ u. F (u ∷ drop (i + 1) c.args.terms.now)) (sym c.t-item.is) in
    record {
      text = ap (λ l. l ++ F (drop (i + 1) c.args.terms.now)) o ∙ append_assoc c.loop-t.out.items T (F (drop (i + 1) c.args.terms.now)) ∙ ap (λ l. c.loop-t.out.items ++ l) (sym e) ∙ c.loop-t.invariant.text;
      front = subst (Extends c.args.out.now.items) (sym o) (extends_more c.args.out.now.items c.loop-t.out.items T c.loop-t.invariant.front);
    }

pub returns-in_err-write_term-clause-err : goal.returns-in_err-write_term-clause-err
returns-in_err-write_term-clause-err g c =
    let p = err_from_is_err_and c.from_residual.result c.from_residual.ensures.1 in
    rw p.1 (extends_twice _ _ _ c.loop-t.invariant.front c.in_err-write_term.ensures.err)
