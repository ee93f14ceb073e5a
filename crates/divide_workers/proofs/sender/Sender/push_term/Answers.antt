use Rattle.std.proofs.Common.{None, IfErr, ap, subst, ◌∙◌}
use Rattle.term_ring.specs.Ends.{places_of}
use Rattle.term_ring.specs.declared.note.NoteOf.TheVariants as note
use Rattle.divide_workers.specs.Inside.{view_of}
use Rattle.divide_workers.specs.Views.{WorkerView}
use Rattle.divide_workers.specs.Steps.{Pushes, Refuses}
use Rattle.divide_workers.proofs.Fields.{if_err, name_stays, carries_own, may_send_kept, kept_sent, pushes_term, refuses}
use Rattle.divide_workers.proofs.sender.Sender.push_term.Goals as goal

pub push-requires-clause-carries : goal.push-requires-clause-carries
push-requires-clause-carries g c κs within =
    let monos = g.met.M.Monomial g.world.𝓛 g.world.𝓜 g.world.𝓡 ((λ s x. x), (λ x. x), (λ x. x), λ x. x) in
    carries_own g.M.Monomial.vector g.R.CoeffRing.value g.R.CoeffRing.belongs g.M.Monomial.order g.M.Monomial.VARS g.M.Monomial.LIM (g.R.CoeffRing.characteristic c.self.inside.coefficients) c.self.inside.worker monos.vars c.self.inside.rows c.self.inside.writer c.self.inside.reader c.self.inside.lead c.self.inside.place c.self.inside.front c.self.inside.kept c.self.inside.marked c.self.invariant c.args.ring.now c.args.self.now c.self.view_is c.requires.ring (note.Term c.args.term) (may_send_kept g.M.Monomial.vector g.R.CoeffRing.value g.R.CoeffRing.belongs g.M.Monomial.order g.M.Monomial.VARS g.M.Monomial.LIM (g.R.CoeffRing.characteristic c.self.inside.coefficients) c.self.inside.worker monos.vars c.self.inside.rows c.self.inside.writer c.self.inside.reader c.self.inside.lead c.self.inside.place c.self.inside.front c.self.inside.kept c.self.inside.marked c.self.invariant c.args.term (ap (λ (v : WorkerView). v.state.kept) c.self.view_is ∙ c.requires.kept))

pub returns-in_err-push-clause-refused : goal.returns-in_err-push-clause-refused
returns-in_err-push-clause-refused g c =
    let monos = g.met.M.Monomial g.world.𝓛 g.world.𝓜 g.world.𝓡 ((λ s x. x), (λ x. x), (λ x. x), λ x. x) in
    subst (λ (v : WorkerView). IfErr c.from_residual.result (λ x. Refuses v (view_of g.M.Monomial.vector g.R.CoeffRing.value c.self.inside.worker c.self.inside.rows c.push.new.self c.self.inside.reader c.self.inside.front c.self.inside.kept))) c.self.view_is
    (if_err c.from_residual.result (Refuses (view_of g.M.Monomial.vector g.R.CoeffRing.value c.self.inside.worker c.self.inside.rows c.self.inside.writer c.self.inside.reader c.self.inside.front c.self.inside.kept) (view_of g.M.Monomial.vector g.R.CoeffRing.value c.self.inside.worker c.self.inside.rows c.push.new.self c.self.inside.reader c.self.inside.front c.self.inside.kept)) (refuses g.M.Monomial.vector g.R.CoeffRing.value g.R.CoeffRing.belongs g.M.Monomial.order g.M.Monomial.VARS g.M.Monomial.LIM (g.R.CoeffRing.characteristic c.self.inside.coefficients) c.self.inside.worker monos.vars c.self.inside.rows c.self.inside.writer c.self.inside.reader c.self.inside.lead c.self.inside.place c.self.inside.front c.self.inside.kept c.self.inside.marked c.self.invariant c.push.new.self (name_stays g.M.Monomial.vector g.R.CoeffRing.value g.R.CoeffRing.belongs g.M.Monomial.order g.M.Monomial.VARS g.M.Monomial.LIM (g.R.CoeffRing.characteristic c.self.inside.coefficients) c.self.inside.worker monos.vars c.self.inside.rows c.self.inside.writer c.self.inside.reader c.self.inside.lead c.self.inside.place c.self.inside.front c.self.inside.kept c.self.inside.marked c.self.invariant c.args.ring.now c.args.self.now c.self.view_is c.requires.ring c.push.new.self c.push.ensures.of) c.push.ensures.of.0 c.in_err-push.ensures.kept (places_of c.args.ring.now) c.push.ensures.of.3 c.push.ensures.head c.in_err-push.ensures.refused c.in_err-push.ensures.full))

pub invariant_of-self-2 : goal.invariant_of-self-2
invariant_of-self-2 g c =
    let monos = g.met.M.Monomial g.world.𝓛 g.world.𝓜 g.world.𝓡 ((λ s x. x), (λ x. x), (λ x. x), λ x. x) in
    kept_sent g.M.Monomial.vector g.R.CoeffRing.value g.R.CoeffRing.belongs g.M.Monomial.order g.M.Monomial.VARS g.M.Monomial.LIM (g.R.CoeffRing.characteristic c.self.inside.coefficients) c.self.inside.worker monos.vars c.self.inside.rows c.self.inside.writer c.self.inside.reader c.self.inside.lead c.self.inside.place c.self.inside.front c.self.inside.kept c.self.inside.marked c.self.invariant c.args.term (ap (λ (v : WorkerView). v.state.kept) c.self.view_is ∙ c.requires.kept) c.push.new.self (name_stays g.M.Monomial.vector g.R.CoeffRing.value g.R.CoeffRing.belongs g.M.Monomial.order g.M.Monomial.VARS g.M.Monomial.LIM (g.R.CoeffRing.characteristic c.self.inside.coefficients) c.self.inside.worker monos.vars c.self.inside.rows c.self.inside.writer c.self.inside.reader c.self.inside.lead c.self.inside.place c.self.inside.front c.self.inside.kept c.self.inside.marked c.self.invariant c.args.ring.now c.args.self.now c.self.view_is c.requires.ring c.push.new.self c.push.ensures.of) c.push.ensures.of.0 c.in_ok-push.ensures.sent

pub returns-clause-sent : goal.returns-clause-sent
returns-clause-sent g c =
    let monos = g.met.M.Monomial g.world.𝓛 g.world.𝓜 g.world.𝓡 ((λ s x. x), (λ x. x), (λ x. x), λ x. x) in
    subst (λ (v : WorkerView). Pushes v (view_of g.M.Monomial.vector g.R.CoeffRing.value c.self.inside.worker c.self.inside.rows c.push.new.self c.self.inside.reader c.self.inside.front None)) c.self.view_is (pushes_term g.M.Monomial.vector g.R.CoeffRing.value g.R.CoeffRing.belongs g.M.Monomial.order g.M.Monomial.VARS g.M.Monomial.LIM (g.R.CoeffRing.characteristic c.self.inside.coefficients) c.self.inside.worker monos.vars c.self.inside.rows c.self.inside.writer c.self.inside.reader c.self.inside.lead c.self.inside.place c.self.inside.front c.self.inside.kept c.self.inside.marked c.self.invariant c.args.term (ap (λ (v : WorkerView). v.state.kept) c.self.view_is ∙ c.requires.kept) c.push.new.self (name_stays g.M.Monomial.vector g.R.CoeffRing.value g.R.CoeffRing.belongs g.M.Monomial.order g.M.Monomial.VARS g.M.Monomial.LIM (g.R.CoeffRing.characteristic c.self.inside.coefficients) c.self.inside.worker monos.vars c.self.inside.rows c.self.inside.writer c.self.inside.reader c.self.inside.lead c.self.inside.place c.self.inside.front c.self.inside.kept c.self.inside.marked c.self.invariant c.args.ring.now c.args.self.now c.self.view_is c.requires.ring c.push.new.self c.push.ensures.of) c.push.ensures.of.0 c.in_ok-push.ensures.sent c.push.ensures.head c.in_ok-push.ensures.unrefused)
