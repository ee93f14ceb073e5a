use Rattle.std.proofs.Common.{IfErr, true≢false, sym, ap, subst, ◌∙◌}
use Rattle.term_ring.specs.Ends.{places_of}
use Rattle.term_ring.specs.declared.note.NoteOf.TheVariants as note
use Rattle.divide_workers.specs.Inside.{view_of, mark_of}
use Rattle.divide_workers.specs.Views.{WorkerView}
use Rattle.divide_workers.specs.Steps.{IsMarkOf, Pushes, Refuses}
use Rattle.divide_workers.proofs.Fields.{if_err, name_stays, carries_own, may_send_new, new_mark_sent, pushes_mark, pushes_nothing, refuses}
use Rattle.divide_workers.proofs.sender.Sender.push_mark.Goals as goal

pub returns-then-is_same-clause-sent : goal.returns-then-is_same-clause-sent
returns-then-is_same-clause-sent g c =
    let monos = g.met.M.Monomial g.world.𝓛 g.world.𝓜 g.world.𝓡 ((λ s x. x), (λ x. x), (λ x. x), λ x. x) in
    subst (λ (v : WorkerView). Pushes v v) c.self.view_is (pushes_nothing g.M.Monomial.vector g.R.CoeffRing.value g.R.CoeffRing.belongs g.M.Monomial.order g.M.Monomial.VARS g.M.Monomial.LIM (g.R.CoeffRing.characteristic c.self.inside.coefficients) c.self.inside.worker monos.vars c.self.inside.rows c.self.inside.writer c.self.inside.reader c.self.inside.lead c.self.inside.place c.self.inside.front c.self.inside.kept c.self.inside.marked c.self.invariant c.mark-mark.result (ap (λ (v : WorkerView). v.state.kept) c.self.view_is ∙ c.requires.kept) (subst (λ (v : WorkerView). IsMarkOf v (mark_of g.M.Monomial.vector c.mark-mark.result)) (sym c.self.view_is) c.mark-mark.ensures) (c.is_same.ensures.0 c.if-is_same.true))

pub push-requires-clause-carries : goal.push-requires-clause-carries
push-requires-clause-carries g c κs within =
    let monos = g.met.M.Monomial g.world.𝓛 g.world.𝓜 g.world.𝓡 ((λ s x. x), (λ x. x), (λ x. x), λ x. x) in
    carries_own g.M.Monomial.vector g.R.CoeffRing.value g.R.CoeffRing.belongs g.M.Monomial.order g.M.Monomial.VARS g.M.Monomial.LIM (g.R.CoeffRing.characteristic c.self.inside.coefficients) c.self.inside.worker monos.vars c.self.inside.rows c.self.inside.writer c.self.inside.reader c.self.inside.lead c.self.inside.place c.self.inside.front c.self.inside.kept c.self.inside.marked c.self.invariant c.args.ring.now c.args.self.now c.self.view_is c.requires.ring (note.Mark c.mark-mark.result.known c.mark-mark.result.top) (may_send_new g.M.Monomial.vector g.R.CoeffRing.value g.R.CoeffRing.belongs g.M.Monomial.order g.M.Monomial.VARS g.M.Monomial.LIM (g.R.CoeffRing.characteristic c.self.inside.coefficients) c.self.inside.worker monos.vars c.self.inside.rows c.self.inside.writer c.self.inside.reader c.self.inside.lead c.self.inside.place c.self.inside.front c.self.inside.kept c.self.inside.marked c.self.invariant c.mark-mark.result (ap (λ (v : WorkerView). v.state.kept) c.self.view_is ∙ c.requires.kept) (subst (λ (v : WorkerView). IsMarkOf v (mark_of g.M.Monomial.vector c.mark-mark.result)) (sym c.self.view_is) c.mark-mark.ensures) (λ e. true≢false (sym (c.is_same.ensures.1 e) ∙ c.if-is_same.false)))

pub returns-in_err-push-clause-refused : goal.returns-in_err-push-clause-refused
returns-in_err-push-clause-refused g c =
    let monos = g.met.M.Monomial g.world.𝓛 g.world.𝓜 g.world.𝓡 ((λ s x. x), (λ x. x), (λ x. x), λ x. x) in
    subst (λ (v : WorkerView). IfErr c.from_residual.result (λ x. Refuses v (view_of g.M.Monomial.vector g.R.CoeffRing.value c.self.inside.worker c.self.inside.rows c.push.new.self c.self.inside.reader c.self.inside.front c.self.inside.kept))) c.self.view_is
    (if_err c.from_residual.result (Refuses (view_of g.M.Monomial.vector g.R.CoeffRing.value c.self.inside.worker c.self.inside.rows c.self.inside.writer c.self.inside.reader c.self.inside.front c.self.inside.kept) (view_of g.M.Monomial.vector g.R.CoeffRing.value c.self.inside.worker c.self.inside.rows c.push.new.self c.self.inside.reader c.self.inside.front c.self.inside.kept)) (refuses g.M.Monomial.vector g.R.CoeffRing.value g.R.CoeffRing.belongs g.M.Monomial.order g.M.Monomial.VARS g.M.Monomial.LIM (g.R.CoeffRing.characteristic c.self.inside.coefficients) c.self.inside.worker monos.vars c.self.inside.rows c.self.inside.writer c.self.inside.reader c.self.inside.lead c.self.inside.place c.self.inside.front c.self.inside.kept c.self.inside.marked c.self.invariant c.push.new.self (name_stays g.M.Monomial.vector g.R.CoeffRing.value g.R.CoeffRing.belongs g.M.Monomial.order g.M.Monomial.VARS g.M.Monomial.LIM (g.R.CoeffRing.characteristic c.self.inside.coefficients) c.self.inside.worker monos.vars c.self.inside.rows c.self.inside.writer c.self.inside.reader c.self.inside.lead c.self.inside.place c.self.inside.front c.self.inside.kept c.self.inside.marked c.self.invariant c.args.ring.now c.args.self.now c.self.view_is c.requires.ring c.push.new.self c.push.ensures.of) c.push.ensures.of.0 c.in_err-push.ensures.kept (places_of c.args.ring.now) c.push.ensures.of.3 c.push.ensures.head c.in_err-push.ensures.refused c.in_err-push.ensures.full))

pub invariant_of-self-2 : goal.invariant_of-self-2
invariant_of-self-2 g c =
    let monos = g.met.M.Monomial g.world.𝓛 g.world.𝓜 g.world.𝓡 ((λ s x. x), (λ x. x), (λ x. x), λ x. x) in
    new_mark_sent g.M.Monomial.vector g.R.CoeffRing.value g.R.CoeffRing.belongs g.M.Monomial.order g.M.Monomial.VARS g.M.Monomial.LIM (g.R.CoeffRing.characteristic c.self.inside.coefficients) c.self.inside.worker monos.vars c.self.inside.rows c.self.inside.writer c.self.inside.reader c.self.inside.lead c.self.inside.place c.self.inside.front c.self.inside.kept c.self.inside.marked c.self.invariant c.mark-mark.result (ap (λ (v : WorkerView). v.state.kept) c.self.view_is ∙ c.requires.kept) (subst (λ (v : WorkerView). IsMarkOf v (mark_of g.M.Monomial.vector c.mark-mark.result)) (sym c.self.view_is) c.mark-mark.ensures) (λ e. true≢false (sym (c.is_same.ensures.1 e) ∙ c.if-is_same.false)) c.push.new.self (name_stays g.M.Monomial.vector g.R.CoeffRing.value g.R.CoeffRing.belongs g.M.Monomial.order g.M.Monomial.VARS g.M.Monomial.LIM (g.R.CoeffRing.characteristic c.self.inside.coefficients) c.self.inside.worker monos.vars c.self.inside.rows c.self.inside.writer c.self.inside.reader c.self.inside.lead c.self.inside.place c.self.inside.front c.self.inside.kept c.self.inside.marked c.self.invariant c.args.ring.now c.args.self.now c.self.view_is c.requires.ring c.push.new.self c.push.ensures.of) c.push.ensures.of.0 c.in_ok-push.ensures.sent

pub returns-clause-sent : goal.returns-clause-sent
returns-clause-sent g c =
    let monos = g.met.M.Monomial g.world.𝓛 g.world.𝓜 g.world.𝓡 ((λ s x. x), (λ x. x), (λ x. x), λ x. x) in
    subst (λ (v : WorkerView). Pushes v (view_of g.M.Monomial.vector g.R.CoeffRing.value c.self.inside.worker c.self.inside.rows c.push.new.self c.self.inside.reader c.self.inside.front c.self.inside.kept)) c.self.view_is (pushes_mark g.M.Monomial.vector g.R.CoeffRing.value g.R.CoeffRing.belongs g.M.Monomial.order g.M.Monomial.VARS g.M.Monomial.LIM (g.R.CoeffRing.characteristic c.self.inside.coefficients) c.self.inside.worker monos.vars c.self.inside.rows c.self.inside.writer c.self.inside.reader c.self.inside.lead c.self.inside.place c.self.inside.front c.self.inside.kept c.self.inside.marked c.self.invariant c.mark-mark.result (ap (λ (v : WorkerView). v.state.kept) c.self.view_is ∙ c.requires.kept) (subst (λ (v : WorkerView). IsMarkOf v (mark_of g.M.Monomial.vector c.mark-mark.result)) (sym c.self.view_is) c.mark-mark.ensures) (λ e. true≢false (sym (c.is_same.ensures.1 e) ∙ c.if-is_same.false)) c.push.new.self (name_stays g.M.Monomial.vector g.R.CoeffRing.value g.R.CoeffRing.belongs g.M.Monomial.order g.M.Monomial.VARS g.M.Monomial.LIM (g.R.CoeffRing.characteristic c.self.inside.coefficients) c.self.inside.worker monos.vars c.self.inside.rows c.self.inside.writer c.self.inside.reader c.self.inside.lead c.self.inside.place c.self.inside.front c.self.inside.kept c.self.inside.marked c.self.invariant c.args.ring.now c.args.self.now c.self.view_is c.requires.ring c.push.new.self c.push.ensures.of) c.push.ensures.of.0 c.in_ok-push.ensures.sent c.push.ensures.head c.in_ok-push.ensures.unrefused)
