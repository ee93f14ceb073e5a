use Rattle.std.proofs.Common.{◌≡◌, sym}
use Rattle.std.specs.Ordering.{is_eq}
use Rattle.sdmp_laws.specs.Order.{alike}
use Rattle.ring_heads.proofs.HeadLemmas.{eq_alike}
use Rattle.divide_merge.proofs.Clearing.{clear_none, top_cleared}
use Rattle.divide_merge.proofs.steps.clear_heads.Given.{Over}
use Rattle.divide_merge.proofs.steps.clear_heads.Goals as goal

-- monomials compare as equal where their vectors are alike
same_vectors : (g : Over) → (a b : g.row.M.Denot) → is_eq (g.M.Ord.cmp a b) ≡ alike (g.M.Monomial.vector a) (g.M.Monomial.vector b)
same_vectors g = let monos = g.met.M.Monomial g.world.𝓛 g.world.𝓜 g.world.𝓡 ((λ s x. x), (λ x. x), (λ x. x), λ x. x) in eq_alike g.M.Ord.cmp g.M.Monomial.vector g.R.CoeffRing.value _ _ monos.ordered monos.vars

pub returns-then-next-clause-heads : goal.returns-then-next-clause-heads
returns-then-next-clause-heads g c =
    let t = c.take_top.ensures in
    (top_cleared g.M.Monomial.vector g.R.CoeffRing.value (g.R.CoeffRing.belongs (g.R.CoeffRing.characteristic c.args.coefficients)) g.M.Ord.cmp (same_vectors g) _ _ c.args.next.mono _ _ (c.requires.there c.if-next.true) c.requires.belongs c.requires.going c.take_top.result t.none t.sum t.heads).heads

pub returns-then-next-clause-belongs : goal.returns-then-next-clause-belongs
returns-then-next-clause-belongs g c =
    let t = c.take_top.ensures in
    (top_cleared g.M.Monomial.vector g.R.CoeffRing.value (g.R.CoeffRing.belongs (g.R.CoeffRing.characteristic c.args.coefficients)) g.M.Ord.cmp (same_vectors g) _ _ c.args.next.mono _ _ (c.requires.there c.if-next.true) c.requires.belongs c.requires.going c.take_top.result t.none t.sum t.heads).belongs

pub returns-then-next-clause-going : goal.returns-then-next-clause-going
returns-then-next-clause-going g c =
    let t = c.take_top.ensures in
    (top_cleared g.M.Monomial.vector g.R.CoeffRing.value (g.R.CoeffRing.belongs (g.R.CoeffRing.characteristic c.args.coefficients)) g.M.Ord.cmp (same_vectors g) _ _ c.args.next.mono _ _ (c.requires.there c.if-next.true) c.requires.belongs c.requires.going c.take_top.result t.none t.sum t.heads).going

pub returns-else-next-clause-heads : goal.returns-else-next-clause-heads
returns-else-next-clause-heads g c =
    sym (clear_none g.M.Monomial.order (g.M.Monomial.vector c.args.next.mono) _ (c.requires.absent c.if-next.false))
