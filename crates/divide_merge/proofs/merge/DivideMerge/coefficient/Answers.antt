use Rattle.std.proofs.Common.{◌+ℤ◌, subst, sym, ◌∙◌}
use Rattle.canonical_terms.specs.View.{term_of}
use Rattle.divide_merge.proofs.Hearing.{modulus_is, no_heads, some_head, sum_coef, top_fits, sum_room}
use Rattle.divide_merge.proofs.merge.DivideMerge.coefficient.Goals as goal

pub returns-then-not-next : goal.returns-then-not-next
returns-then-not-next g c =
    let e = c.unread_coefficient-unread.ensures in
    record { belongs = e.belongs; value = e.value ∙ no_heads g.M.Monomial.vector c.args.self.now.run.state c.args.next c.requires.next c.if-not-next.true }

pub sum_at_top-requires-clause-belongs : goal.sum_at_top-requires-clause-belongs
sum_at_top-requires-clause-belongs g c κs within = c.self.invariant.workers.heads_belong

pub sum_at_top-requires-clause-bound : goal.sum_at_top-requires-clause-bound
sum_at_top-requires-clause-bound g c κs within z = top_fits c.self.invariant c.self.view_is c.args.next c.requires.next c.requires.heard c.if-not-next.false z

pub unreachable-requires : goal.unreachable-requires
unreachable-requires g c = some_head c.self.invariant c.self.view_is c.args.next c.requires.next c.if-not-next.false c.in_default.ensures.none

pub neg-heads-requires : goal.neg-heads-requires
neg-heads-requires g c = c.in-Some.ensures.belongs

pub add-requires-clause-left : goal.add-requires-clause-left
add-requires-clause-left g c =
    subst (λ q. g.R.CoeffRing.belongs q c.unread_coefficient-unread.result) (modulus_is c.self.invariant c.self.view_is) c.unread_coefficient-unread.ensures.belongs

pub add-requires-clause-room : goal.add-requires-clause-room
add-requires-clause-room g c =
    let rings = g.met.R.CoeffRing g.world.𝓛 g.world.𝓜 g.world.𝓡 ((λ s x. x), (λ x. x), (λ x. x), λ x. x) in
    let value = g.R.CoeffRing.value in
    rings.has_room c.self.inside.coefficients (value c.unread_coefficient-unread.result +ℤ value c.neg-heads.result)
    (sum_room c.self.invariant c.self.view_is c.args.next c.requires.next c.requires.heard c.if-not-next.false (value c.unread_coefficient-unread.result) (value c.neg-heads.result)
    (term_of g.M.Monomial.vector value c.in-Some.sum) c.unread_coefficient-unread.ensures.value c.in-Some.ensures.sum c.neg-heads.ensures.value)

pub returns : goal.returns
returns g c =
    let value = g.R.CoeffRing.value in
    record {
      belongs = subst (λ q. g.R.CoeffRing.belongs q c.add.result) (sym (modulus_is c.self.invariant c.self.view_is)) c.add.ensures.belongs;
      value = c.add.ensures.value
          ∙ sum_coef c.self.invariant c.self.view_is c.args.next c.requires.next c.if-not-next.false (value c.unread_coefficient-unread.result) (value c.neg-heads.result)
          (term_of g.M.Monomial.vector value c.in-Some.sum) c.unread_coefficient-unread.ensures.value c.in-Some.ensures.sum c.neg-heads.ensures.value;
    }
