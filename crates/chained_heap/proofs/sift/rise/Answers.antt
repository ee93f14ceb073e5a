use Rattle.std.proofs.Common.{◌≡◌, ◌+◌, ◌-◌, ◌*◌, ◌/◌, ◌^◌, ◌<◌, ◌≤◌, ℕ, suc, Bool, sym, ap, ◌∙◌, refl, arith, true, false}
use Rattle.std.specs.Prelude.{not}
use Rattle.std.specs.Ordering.{is_lt}
use Rattle.std.proofs.lemmas.Cmp.{is_lt_index}
use Rattle.std.proofs.Math.Nat.{mul-le-mul_left}
use Rattle.chained_heap.proofs.Heaps.{risen_begins, risen_steps, risen_rests, risen_tops, read_test}
use Rattle.chained_heap.proofs.Walks.{half_pow, pow_below_back}
use Rattle.chained_heap.proofs.sift.rise.Goals as goal

one_more : (k t n l : ℕ) → 0 < k → (k + 1) * 2 ^ t ≤ n → n < 2 ^ (l + 1) → t + 1 ≤ l
one_more k t n l z h b =
    let m : 2 ^ t * 2 ≤ 2 ^ t * (k + 1) = mul-le-mul_left (2 ^ t) (omega arith) in
    let d : 2 ^ suc t ≡ 2 * 2 ^ t = omega arith in
    let p = pow_below_back (suc t) (l + 1) (omega arith) in
    omega arith

none_more : (k t n l : ℕ) → (k + 1) * 2 ^ t ≤ n → n < 2 ^ (l + 1) → t ≤ l
none_more k t n l h b =
    let m : 2 ^ t * 1 ≤ 2 ^ t * (k + 1) = mul-le-mul_left (2 ^ t) (omega arith) in
    let p = pow_below_back t (l + 1) (omega arith) in
    omega arith

flip : (b : Bool) → true ≡ not b → b ≡ false
flip true e = e
flip false e = refl

flop : (b : Bool) → false ≡ not b → b ≡ true
flop true e = refl
flop false e = e

pub loop-at-init : goal.loop-at-init
loop-at-init g c = (risen_begins g.M.Ord.cmp c.args.from c.args.x c.args.nodes.now, (0, omega arith, omega arith), refl)

pub returns-then-ne-clause-sifts : goal.returns-then-ne-clause-sifts
returns-then-ne-clause-sifts g c =
    let monos = g.met.M.Monomial g.world.𝓛 g.world.𝓜 g.world.𝓡 ((λ s x. x), (λ x. x), (λ x. x), λ x. x) in
    let o = (g.met.M.Ord g.world.𝓛 g.world.𝓜 g.world.𝓡 ((λ s x. x), (λ x. x), (λ x. x), λ x. x)).total in
    let y = c.index-nodes-parent.result in
    risen_rests g.M.Ord.cmp o c.args.from c.args.x y c.args.nodes.now c.loop-at.nodes c.loop-at.at c.requires c.loop-at-test.true
    (ap is_lt (monos.ordered _ c.args.x.mono ∙ sym c.higher.ensures.value) ∙ is_lt_index c.higher.result ∙ flip _ c.if-ne.ensures) c.loop-at.invariant.0

pub returns-then-ne-clause-compares : goal.returns-then-ne-clause-compares
returns-then-ne-clause-compares g c = λ l b.
    let w = c.loop-at.invariant.1 in
    let u = one_more c.loop-at.at w.0 (c.args.from + 1) l c.loop-at-test.true w.1 b in
    omega (arith, w.2, c.higher.ensures.compares)

pub loop-at-preserved : goal.loop-at-preserved
loop-at-preserved g c =
    let monos = g.met.M.Monomial g.world.𝓛 g.world.𝓜 g.world.𝓡 ((λ s x. x), (λ x. x), (λ x. x), λ x. x) in
    let y = c.index-nodes-parent.result in
    let z = c.index-nodes-parent-in-loop-at.result in
    let w = c.loop-at.invariant.1 in (
      risen_steps g.M.Ord.cmp c.args.from c.args.x z c.args.nodes.now c.loop-at.nodes c.loop-at.at c.requires c.loop-at-test.true c.index-nodes-parent-in-loop-at.is
          (read_test g.M.Ord.cmp c.loop-at.nodes ((c.loop-at.at - 1) / 2) y c.args.x.mono is_lt true (omega (arith, c.loop-at.invariant.0.within, c.loop-at.invariant.0.long)) (ap is_lt (monos.ordered _ c.args.x.mono ∙ sym c.higher.ensures.value) ∙ is_lt_index c.higher.result ∙ flop _ c.if-ne.ensures) z) c.loop-at.invariant.0,
      (suc w.0, half_pow c.loop-at.at w.0 (c.args.from + 1) c.loop-at-test.true w.1, omega (arith, w.2, c.higher.ensures.compares)),
      c.higher.ensures.products ∙ c.loop-at.invariant.2,
    )

pub returns-clause-sifts : goal.returns-clause-sifts
returns-clause-sifts g c =
    let o = (g.met.M.Ord g.world.𝓛 g.world.𝓜 g.world.𝓡 ((λ s x. x), (λ x. x), (λ x. x), λ x. x)).total in
    risen_tops g.M.Ord.cmp o c.args.from c.args.x c.args.nodes.now c.loop-at.nodes c.loop-at.at (omega (arith, c.loop-at-test.false)) c.loop-at.invariant.0

pub returns-clause-compares : goal.returns-clause-compares
returns-clause-compares g c = λ l b.
    let w = c.loop-at.invariant.1 in
    let u = none_more c.loop-at.at w.0 (c.args.from + 1) l w.1 b in
    omega (arith, w.2)
