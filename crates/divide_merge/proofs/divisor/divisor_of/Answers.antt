use Rattle.std.proofs.Common.{◌∙◌, refl, sym, subst, ℕ, MatchOption}
use Rattle.sdmp_laws.specs.Ring.{IsUnit, IsInverse}
use Rattle.sdmp_laws.specs.Canonical.{IsCanonical}
use Rattle.divide_merge.proofs.DivisorLemmas.{is_zero, leads, counted}
use Rattle.divide_merge.proofs.divisor.divisor_of.Goals as goal

pub returns-clause-kept : goal.returns-clause-kept
returns-clause-kept g c =
    let V = g.M.Monomial.vector in
    let val = g.R.CoeffRing.value in
    let B = g.R.CoeffRing.belongs in
    let t = c.index-terms-0.result in
    let e = c.terms-terms.ensures in
    let same = sym c.requires.moduli in record {
      mode = refl;
      leading =
          leads V val (B c.args.g.now.modulus) g.M.Monomial.order g.M.Monomial.VARS g.M.Monomial.LIM c.args.f.now.modulus c.args.g.now.list c.terms-terms.result.now t c.inverse.result
          e.view (subst (λ (p : ℕ). IsCanonical g.M.Monomial.order p g.M.Monomial.VARS g.M.Monomial.LIM c.args.g.now.list) same e.canonical) e.belongs c.requires.accepted.nonzero c.index-terms-0.is
          (subst (λ (p : ℕ). MatchOption c.inverse.result (IsUnit p (val t.coef) → ⊥) (λ v. B c.args.g.now.modulus v × IsInverse p (val t.coef) (val v))) same
          (subst (λ (p : ℕ). MatchOption c.inverse.result (IsUnit p (val t.coef) → ⊥) (λ v. B p v × IsInverse p (val t.coef) (val v))) c.ring-ring.ensures c.inverse.ensures));
      terms = counted V val (B c.args.g.now.modulus) g.M.Monomial.order g.M.Monomial.VARS g.M.Monomial.LIM c.args.f.now.modulus c.args.g.now.list c.terms-terms.result.now e.view;
      integers = is_zero c.modulus.result c.args.f.now.modulus (c.modulus.ensures ∙ c.ring-ring.ensures ∙ same);
      dividend = c.norm.ensures.value;
      divisor = c.norm-2.ensures.value;
    }
