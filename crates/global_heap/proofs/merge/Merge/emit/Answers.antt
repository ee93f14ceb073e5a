use Rattle.std.proofs.Common.{◌≡◌, ◌+◌, ◌-◌, ◌<◌, subst, sym, arith, refl, ◌∙◌, true≢false, vec_len, vec_capacity}
use Rattle.std.specs.Ordering.{is_eq}
use Rattle.sdmp_laws.specs.Order.{alike}
use Rattle.ring_heads.proofs.HeadLemmas.{eq_alike}
use Rattle.global_heap.specs.Inside.{merge_state}
use Rattle.global_heap.proofs.Finish.{top_fits}
use Rattle.global_heap.proofs.EmitSound.{pushed, passed}
use Rattle.global_heap.proofs.merge.Merge.emit.Given.{Over}
use Rattle.global_heap.proofs.merge.Merge.emit.Goals as goal

-- monomials compare as equal where their vectors are alike
same_vectors : (g : Over) → (a b : g.row.M.Denot) → is_eq (g.M.Ord.cmp a b) ≡ alike (g.M.Monomial.vector a) (g.M.Monomial.vector b)
same_vectors g = let monos = g.met.M.Monomial g.world.𝓛 g.world.𝓜 g.world.𝓡 ((λ s x. x), (λ x. x), (λ x. x), λ x. x) in eq_alike g.M.Ord.cmp g.M.Monomial.vector g.R.CoeffRing.value _ _ monos.ordered monos.vars

pub take_top-requires-clause-bound : goal.take_top-requires-clause-bound
take_top-requires-clause-bound g c κs within i =
    let k = c.self.invariant in
    top_fits g.M.Monomial.LIM _ (merge_state g.M.Monomial.vector g.R.CoeffRing.value c.self.inside.readers.items c.self.inside.heads c.self.inside.out.items) k.whole k.fit (k.modulus ∙ i)

pub invariant_of-self : goal.invariant_of-self
invariant_of-self g c =
    let top = c.in-Some.ensures in
    let e = c.push_reserved.ensures in
    let few : vec_capacity c.push_reserved.new.self - vec_len c.push_reserved.new.self + 1 ≡ vec_capacity c.self.inside.out - vec_len c.self.inside.out = (let r = subst (λ v. 0 < v.spare) (sym c.self.view_is) c.requires.room in omega (arith, e.len, e.capacity, c.self.inside.out.ok.0, c.push_reserved.new.self.ok.0, r)) in
    (pushed g.M.Ord.cmp _ _ _ _ _ g.M.Monomial.LIM _ (same_vectors g) _ _ _ _ _ _ _ _ _ c.in-Some.term c.self.invariant c.self.view_is c.requires.served top.sum ((g.met.M.Monomial g.world.𝓛 g.world.𝓜 g.world.𝓡 ((λ s x. x), (λ x. x), (λ x. x), λ x. x)).vars c.in-Some.term.mono) top.heads (λ z. true≢false (sym (c.if-not-is_zero.ensures.1 z))) top.belongs e.items few).kept

pub returns-then-not-is_zero : goal.returns-then-not-is_zero
returns-then-not-is_zero g c =
    let top = c.in-Some.ensures in
    let e = c.push_reserved.ensures in
    let few : vec_capacity c.push_reserved.new.self - vec_len c.push_reserved.new.self + 1 ≡ vec_capacity c.self.inside.out - vec_len c.self.inside.out = (let r = subst (λ v. 0 < v.spare) (sym c.self.view_is) c.requires.room in omega (arith, e.len, e.capacity, c.self.inside.out.ok.0, c.push_reserved.new.self.ok.0, r)) in
    let p = pushed g.M.Ord.cmp _ _ _ _ _ g.M.Monomial.LIM _ (same_vectors g) _ _ _ _ _ _ _ _ _ c.in-Some.term c.self.invariant c.self.view_is c.requires.served top.sum ((g.met.M.Monomial g.world.𝓛 g.world.𝓜 g.world.𝓡 ((λ s x. x), (λ x. x), (λ x. x), λ x. x)).vars c.in-Some.term.mono) top.heads (λ z. true≢false (sym (c.if-not-is_zero.ensures.1 z))) top.belongs e.items few in
    record { sound = p.sound; emits = p.emits }

pub invariant_of-self-else-not-is_zero : goal.invariant_of-self-else-not-is_zero
invariant_of-self-else-not-is_zero g c =
    let top = c.in-Some.ensures in
    (passed g.M.Ord.cmp _ _ _ _ _ g.M.Monomial.LIM _ (same_vectors g) _ _ _ _ _ _ _ c.in-Some.term c.self.invariant c.self.view_is c.requires.served top.sum ((g.met.M.Monomial g.world.𝓛 g.world.𝓜 g.world.𝓡 ((λ s x. x), (λ x. x), (λ x. x), λ x. x)).vars c.in-Some.term.mono) top.heads (c.if-not-is_zero.ensures.0 refl)).kept

pub returns-else-not-is_zero : goal.returns-else-not-is_zero
returns-else-not-is_zero g c =
    let top = c.in-Some.ensures in
    let p = passed g.M.Ord.cmp _ _ _ _ _ g.M.Monomial.LIM _ (same_vectors g) _ _ _ _ _ _ _ c.in-Some.term c.self.invariant c.self.view_is c.requires.served top.sum ((g.met.M.Monomial g.world.𝓛 g.world.𝓜 g.world.𝓡 ((λ s x. x), (λ x. x), (λ x. x), λ x. x)).vars c.in-Some.term.mono) top.heads (c.if-not-is_zero.ensures.0 refl) in
    record { sound = p.sound; emits = p.emits }
