use Rattle.std.proofs.Common.{◌≤◌, subst, sym, ap, ◌∙◌}
use Rattle.sdmp_laws.specs.Poly.{coef}
use Rattle.sdmp_laws.specs.Limits.{greatest_norm}
use Rattle.ring_heads.specs.Heads.{live, size_at}
use Rattle.ring_heads.proofs.heads.Heads.sum_at_top.Goals as goal

pub returns-clause-sum : goal.returns-clause-sum
returns-clause-sum g c =
    let same = c.deref.ensures.value ∙ c.self.view_is in
    record {
      top = c.in_ok-mono.ensures;
      sum = c.sum_at-coef.ensures.sum ∙ ap (λ hs. coef (g.R.CoeffRing.characteristic c.args.coefficients) (live g.M.Monomial.vector g.R.CoeffRing.value hs) (g.M.Monomial.vector c.in_ok-mono.mono)) same;
    }

pub sum_at-coef-requires-clause-bound : goal.sum_at-coef-requires-clause-bound
sum_at-coef-requires-clause-bound g c κs within i =
    subst (λ hs. size_at (g.M.Monomial.vector c.in_ok-mono.mono) (live g.M.Monomial.vector g.R.CoeffRing.value hs) ≤ greatest_norm) (sym (c.deref.ensures.value ∙ c.self.view_is)) (c.requires.bound i (g.M.Monomial.vector c.in_ok-mono.mono) c.in_ok-mono.ensures)
