use Rattle.std.proofs.Common.{◌<◌, slice_index_or, sym, ap, subst, ◌∙◌}
use Rattle.divide_workers.specs.Inside.{view_of}
use Rattle.divide_workers.specs.Views.{WorkerView}
use Rattle.divide_workers.specs.Rounds.{Meets}
use Rattle.divide_workers.proofs.Fields.{writes_own, name_stays}
use Rattle.divide_workers.proofs.Looking.{reads_own}
use Rattle.divide_workers.proofs.Meeting.{met_is, meets}
use Rattle.divide_workers.proofs.sender.Sender.meet.Goals as goal

pub meet-requires-clause-worker : goal.meet-requires-clause-worker
meet-requires-clause-worker g c κs within =
    subst (λ (v : WorkerView). v.state.worker < c.args.merge.now.run.state.workers) (sym c.self.view_is) c.requires.worker

pub meet-requires-clause-ring : goal.meet-requires-clause-ring
meet-requires-clause-ring g c κs within =
    λ d. ap (λ (v : WorkerView). slice_index_or c.args.merge.now.rings v.state.worker d) c.self.view_is ∙ c.requires.ring.1 d ∙ sym c.requires.ring.0

pub meet-requires-clause-writer : goal.meet-requires-clause-writer
meet-requires-clause-writer g c κs within =
    let monos = g.met.M.Monomial g.world.𝓛 g.world.𝓜 g.world.𝓡 ((λ s x. x), (λ x. x), (λ x. x), λ x. x) in
    writes_own g.M.Monomial.vector g.R.CoeffRing.value g.R.CoeffRing.belongs g.M.Monomial.order g.M.Monomial.VARS g.M.Monomial.LIM (g.R.CoeffRing.characteristic c.self.inside.coefficients) c.self.inside.worker monos.vars c.self.inside.rows c.self.inside.writer c.self.inside.reader c.self.inside.lead c.self.inside.place c.self.inside.front c.self.inside.kept c.self.inside.marked c.self.invariant c.args.ring.now c.args.self.now c.self.view_is c.requires.ring.0

pub meet-requires-clause-reader : goal.meet-requires-clause-reader
meet-requires-clause-reader g c κs within =
    let monos = g.met.M.Monomial g.world.𝓛 g.world.𝓜 g.world.𝓡 ((λ s x. x), (λ x. x), (λ x. x), λ x. x) in
    reads_own g.M.Monomial.vector g.R.CoeffRing.value g.R.CoeffRing.belongs g.M.Monomial.order g.M.Monomial.VARS g.M.Monomial.LIM (g.R.CoeffRing.characteristic c.self.inside.coefficients) c.self.inside.worker monos.vars c.self.inside.rows c.self.inside.writer c.self.inside.reader c.self.inside.lead c.self.inside.place c.self.inside.front c.self.inside.kept c.self.inside.marked c.self.invariant c.args.row.now c.args.self.now c.self.view_is c.requires.reader

pub invariant_of-self : goal.invariant_of-self
invariant_of-self g c =
    let monos = g.met.M.Monomial g.world.𝓛 g.world.𝓜 g.world.𝓡 ((λ s x. x), (λ x. x), (λ x. x), λ x. x) in
    met_is g.M.Monomial.vector g.R.CoeffRing.value g.R.CoeffRing.belongs g.M.Monomial.order g.M.Monomial.VARS g.M.Monomial.LIM (g.R.CoeffRing.characteristic c.self.inside.coefficients) c.self.inside.worker monos.vars c.self.inside.rows c.self.inside.writer c.self.inside.reader c.self.inside.lead c.self.inside.place c.self.inside.front c.self.inside.kept c.self.inside.marked c.self.invariant c.args.row.now c.args.self.now c.self.view_is c.requires.reader c.meet.new.writer c.meet.new.reader (name_stays g.M.Monomial.vector g.R.CoeffRing.value g.R.CoeffRing.belongs g.M.Monomial.order g.M.Monomial.VARS g.M.Monomial.LIM (g.R.CoeffRing.characteristic c.self.inside.coefficients) c.self.inside.worker monos.vars c.self.inside.rows c.self.inside.writer c.self.inside.reader c.self.inside.lead c.self.inside.place c.self.inside.front c.self.inside.kept c.self.inside.marked c.self.invariant c.args.ring.now c.args.self.now c.self.view_is c.requires.ring.0 c.meet.new.writer c.meet.ensures.writer) c.meet.ensures.writer.0 c.meet.ensures.reader c.meet.ensures.sent c.meet.ensures.known

pub returns-clause-meets : goal.returns-clause-meets
returns-clause-meets g c =
    let monos = g.met.M.Monomial g.world.𝓛 g.world.𝓜 g.world.𝓡 ((λ s x. x), (λ x. x), (λ x. x), λ x. x) in
    subst (λ (v : WorkerView). Meets c.meet.new.self v (view_of g.M.Monomial.vector g.R.CoeffRing.value c.self.inside.worker c.self.inside.rows c.meet.new.writer c.meet.new.reader c.self.inside.front c.self.inside.kept)) c.self.view_is
    (meets g.M.Monomial.vector g.R.CoeffRing.value g.R.CoeffRing.belongs g.M.Monomial.order g.M.Monomial.VARS g.M.Monomial.LIM (g.R.CoeffRing.characteristic c.self.inside.coefficients) c.self.inside.worker monos.vars c.self.inside.rows c.self.inside.writer c.self.inside.reader c.self.inside.lead c.self.inside.place c.self.inside.front c.self.inside.kept c.self.inside.marked c.self.invariant c.args.row.now c.args.self.now c.self.view_is c.requires.reader c.meet.new.writer c.meet.new.reader (name_stays g.M.Monomial.vector g.R.CoeffRing.value g.R.CoeffRing.belongs g.M.Monomial.order g.M.Monomial.VARS g.M.Monomial.LIM (g.R.CoeffRing.characteristic c.self.inside.coefficients) c.self.inside.worker monos.vars c.self.inside.rows c.self.inside.writer c.self.inside.reader c.self.inside.lead c.self.inside.place c.self.inside.front c.self.inside.kept c.self.inside.marked c.self.invariant c.args.ring.now c.args.self.now c.self.view_is c.requires.ring.0 c.meet.new.writer c.meet.ensures.writer) c.meet.ensures.writer.0 c.meet.ensures.reader c.meet.ensures.sent c.meet.ensures.known c.meet.new.self c.meet.ensures.told c.meet.ensures.head c.meet.ensures.prefix c.meet.ensures.reader_seen c.meet.ensures.writer_seen c.meet.ensures.count c.meet.ensures.seen c.meet.ensures.published)
