use Rattle.std.proofs.Common.{◌≡◌, ◌+◌, ◌^◌, ◌<◌, ◌≤◌, ℕ, zero, suc, length, sym, subst, ap, ◌∙◌, arith, true}
use Rattle.std.specs.Ordering.{is_eq}
use Rattle.chained_heap.proofs.Heaps.{read_test}
use Rattle.chained_heap.proofs.sift.find.Goals as goal

pub returns-in-Equal-clause-spot : goal.returns-in-Equal-clause-spot
returns-in-Equal-clause-spot g c =
    let monos = g.met.M.Monomial g.world.𝓛 g.world.𝓜 g.world.𝓡 ((λ s x. x), (λ x. x), (λ x. x), λ x. x) in
    (omega (arith, c.if-nodes-eq0.false), read_test g.M.Ord.cmp c.args.nodes.now 0 c.index-nodes-0.result c.args.mono is_eq true (omega (arith, c.if-nodes-eq0.false)) (ap is_eq (monos.ordered _ c.args.mono ∙ sym c.in-Equal.ensures.value)))

two_parts : (l n from mid new : ℕ) → n + 1 < 2 ^ l → mid ≤ from + 1 → ((k : ℕ) → n + 1 < 2 ^ (k + 1) → new ≤ mid + k) → new ≤ from + l
two_parts zero n from mid new b u h = absurd (omega arith)
two_parts (suc l) n from mid new b u h =
    let e : suc l ≡ l + 1 = omega arith in
    let v = h l (subst (λ j. n + 1 < 2 ^ j) e b) in
    omega arith

one_part : (l n from new : ℕ) → n + 1 < 2 ^ l → new ≤ from + 1 → new ≤ from + l
one_part zero n from new b u = absurd (omega arith)
one_part (suc l) n from new b u = omega arith

pub returns-in-Equal-clause-compares : goal.returns-in-Equal-clause-compares
returns-in-Equal-clause-compares g c = λ l b. one_part l (length c.args.nodes.now) c.args.steps.now.compares _ b (omega (arith, c.higher.ensures.compares))

pub returns-in_default-clause-compares : goal.returns-in_default-clause-compares
returns-in_default-clause-compares g c = λ l b. two_parts l (length c.args.nodes.now) c.args.steps.now.compares c.higher.new.steps.compares _ b (omega (arith, c.higher.ensures.compares)) c.climb.ensures.compares
