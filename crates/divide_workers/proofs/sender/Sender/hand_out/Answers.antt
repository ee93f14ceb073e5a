use Rattle.std.proofs.Common.{Some, length, true≢false, sym, ap, subst, ◌∙◌, arith}
use Rattle.canonical_terms.specs.View.{term_of}
use Rattle.divide_workers.specs.Inside.{view_of}
use Rattle.divide_workers.specs.Views.{WorkerView}
use Rattle.divide_workers.specs.Steps.{HandsOut, MayHand}
use Rattle.divide_workers.proofs.Fields.{not_empty, handed, handed_out, fewer, kept_zero, kept_other}
use Rattle.divide_workers.proofs.sender.Sender.hand_out.Goals as goal

pub unreachable-requires : goal.unreachable-requires
unreachable-requires g c =
    let monos = g.met.M.Monomial g.world.𝓛 g.world.𝓜 g.world.𝓡 ((λ s x. x), (λ x. x), (λ x. x), λ x. x) in
    not_empty g.M.Monomial.vector g.R.CoeffRing.value g.R.CoeffRing.belongs g.M.Monomial.order g.M.Monomial.VARS g.M.Monomial.LIM (g.R.CoeffRing.characteristic c.self.inside.coefficients) c.self.inside.worker monos.vars c.self.inside.rows c.self.inside.writer c.self.inside.reader c.self.inside.lead c.self.inside.place c.self.inside.front c.self.inside.kept c.self.inside.marked c.self.invariant (subst MayHand (sym c.self.view_is) c.requires.may) c.in_default.ensures.sum.0

pub invariant_of-self : goal.invariant_of-self
invariant_of-self g c =
    let monos = g.met.M.Monomial g.world.𝓛 g.world.𝓜 g.world.𝓡 ((λ s x. x), (λ x. x), (λ x. x), λ x. x) in
    handed g.M.Monomial.vector g.R.CoeffRing.value g.R.CoeffRing.belongs g.M.Monomial.order g.M.Monomial.VARS g.M.Monomial.LIM (g.R.CoeffRing.characteristic c.self.inside.coefficients) c.self.inside.worker monos.vars c.self.inside.rows c.self.inside.writer c.self.inside.reader c.self.inside.lead c.self.inside.place c.self.inside.front c.self.inside.kept c.self.inside.marked c.self.invariant c.next.new.self c.in-Some.sum (Some c.in-Some.sum) c.in-Some.ensures.sum (ap (λ (v : WorkerView). v.state.kept) c.self.view_is ∙ c.requires.kept) (subst MayHand (sym c.self.view_is) c.requires.may)
    (kept_other (term_of g.M.Monomial.vector g.R.CoeffRing.value c.in-Some.sum) (λ e. true≢false (sym (c.is_zero.ensures.1 e) ∙ c.if-not-is_zero.true)))
    (subst (λ k. g.R.CoeffRing.belongs k c.in-Some.sum.coef) c.self.invariant.modulus c.in-Some.ensures.belongs)

pub invariant_of-self-else-not-is_zero : goal.invariant_of-self-else-not-is_zero
invariant_of-self-else-not-is_zero g c =
    let monos = g.met.M.Monomial g.world.𝓛 g.world.𝓜 g.world.𝓡 ((λ s x. x), (λ x. x), (λ x. x), λ x. x) in
    let none = ap (λ (v : WorkerView). v.state.kept) c.self.view_is ∙ c.requires.kept in
    handed g.M.Monomial.vector g.R.CoeffRing.value g.R.CoeffRing.belongs g.M.Monomial.order g.M.Monomial.VARS g.M.Monomial.LIM (g.R.CoeffRing.characteristic c.self.inside.coefficients) c.self.inside.worker monos.vars c.self.inside.rows c.self.inside.writer c.self.inside.reader c.self.inside.lead c.self.inside.place c.self.inside.front c.self.inside.kept c.self.inside.marked c.self.invariant c.next.new.self c.in-Some.sum c.self.inside.kept c.in-Some.ensures.sum none (subst MayHand (sym c.self.view_is) c.requires.may)
    (none ∙ kept_zero (g.R.CoeffRing.value c.in-Some.sum.coef) (g.M.Monomial.vector c.in-Some.sum.mono) (c.is_zero.ensures.0 c.if-not-is_zero.false)) c.self.invariant.kept_belongs

pub returns-then-not-is_zero-clause-hands : goal.returns-then-not-is_zero-clause-hands
returns-then-not-is_zero-clause-hands g c =
    let monos = g.met.M.Monomial g.world.𝓛 g.world.𝓜 g.world.𝓡 ((λ s x. x), (λ x. x), (λ x. x), λ x. x) in
    let w = handed_out g.M.Monomial.vector g.R.CoeffRing.value g.R.CoeffRing.belongs g.M.Monomial.order g.M.Monomial.VARS g.M.Monomial.LIM (g.R.CoeffRing.characteristic c.self.inside.coefficients) c.self.inside.worker monos.vars c.self.inside.rows c.self.inside.writer c.self.inside.reader c.self.inside.lead c.self.inside.place c.self.inside.front c.self.inside.kept c.self.inside.marked c.self.invariant c.next.new.self c.in-Some.sum (Some c.in-Some.sum) c.in-Some.ensures.sum in
    subst (λ (v : WorkerView). HandsOut v (view_of g.M.Monomial.vector g.R.CoeffRing.value c.self.inside.worker c.next.new.self c.self.inside.writer c.self.inside.reader c.self.inside.front (Some c.in-Some.sum))) c.self.view_is w

pub returns-else-not-is_zero-clause-hands : goal.returns-else-not-is_zero-clause-hands
returns-else-not-is_zero-clause-hands g c =
    let monos = g.met.M.Monomial g.world.𝓛 g.world.𝓜 g.world.𝓡 ((λ s x. x), (λ x. x), (λ x. x), λ x. x) in
    let w = handed_out g.M.Monomial.vector g.R.CoeffRing.value g.R.CoeffRing.belongs g.M.Monomial.order g.M.Monomial.VARS g.M.Monomial.LIM (g.R.CoeffRing.characteristic c.self.inside.coefficients) c.self.inside.worker monos.vars c.self.inside.rows c.self.inside.writer c.self.inside.reader c.self.inside.lead c.self.inside.place c.self.inside.front c.self.inside.kept c.self.inside.marked c.self.invariant c.next.new.self c.in-Some.sum c.self.inside.kept c.in-Some.ensures.sum in
    subst (λ (v : WorkerView). HandsOut v (view_of g.M.Monomial.vector g.R.CoeffRing.value c.self.inside.worker c.next.new.self c.self.inside.writer c.self.inside.reader c.self.inside.front c.self.inside.kept)) c.self.view_is w

pub returns-then-not-is_zero-clause-fewer : goal.returns-then-not-is_zero-clause-fewer
returns-then-not-is_zero-clause-fewer g c =
    let monos = g.met.M.Monomial g.world.𝓛 g.world.𝓜 g.world.𝓡 ((λ s x. x), (λ x. x), (λ x. x), λ x. x) in
    let e = ap (λ (v : WorkerView). length v.state.unread) c.self.view_is in
    let f = fewer g.M.Monomial.vector g.R.CoeffRing.value g.R.CoeffRing.belongs g.M.Monomial.order g.M.Monomial.VARS g.M.Monomial.LIM (g.R.CoeffRing.characteristic c.self.inside.coefficients) c.self.inside.worker monos.vars c.self.inside.rows c.self.inside.writer c.self.inside.reader c.self.inside.lead c.self.inside.place c.self.inside.front c.self.inside.kept c.self.inside.marked c.self.invariant c.next.new.self c.in-Some.sum (Some c.in-Some.sum) c.in-Some.ensures.sum in omega (arith, e, f)

pub returns-else-not-is_zero-clause-fewer : goal.returns-else-not-is_zero-clause-fewer
returns-else-not-is_zero-clause-fewer g c =
    let monos = g.met.M.Monomial g.world.𝓛 g.world.𝓜 g.world.𝓡 ((λ s x. x), (λ x. x), (λ x. x), λ x. x) in
    let e = ap (λ (v : WorkerView). length v.state.unread) c.self.view_is in
    let f = fewer g.M.Monomial.vector g.R.CoeffRing.value g.R.CoeffRing.belongs g.M.Monomial.order g.M.Monomial.VARS g.M.Monomial.LIM (g.R.CoeffRing.characteristic c.self.inside.coefficients) c.self.inside.worker monos.vars c.self.inside.rows c.self.inside.writer c.self.inside.reader c.self.inside.lead c.self.inside.place c.self.inside.front c.self.inside.kept c.self.inside.marked c.self.invariant c.next.new.self c.in-Some.sum c.self.inside.kept c.in-Some.ensures.sum in omega (arith, e, f)
