use Rattle.std.proofs.Common.{Some, subst}
use Rattle.divide_workers.specs.Fronts.{front_of}
use Rattle.divide_workers.specs.Inside.{view_of}
use Rattle.divide_workers.specs.Views.{WorkerView}
use Rattle.divide_workers.specs.Steps.{Works}
use Rattle.divide_workers.proofs.Fields.{hears}
use Rattle.divide_workers.proofs.Looking.{may_take, heard_note, heard_is, found_none_works}
use Rattle.divide_workers.proofs.sender.Sender.look.Goals as goal

pub returns-in_default-clause-works : goal.returns-in_default-clause-works
returns-in_default-clause-works g c =
    let monos = g.met.M.Monomial g.world.𝓛 g.world.𝓜 g.world.𝓡 ((λ s x. x), (λ x. x), (λ x. x), λ x. x) in
    subst (λ (v : WorkerView). Works v (view_of g.M.Monomial.vector g.R.CoeffRing.value c.self.inside.worker c.self.inside.rows c.self.inside.writer c.look.new.self c.self.inside.front c.self.inside.kept)) c.self.view_is
    (found_none_works g.M.Monomial.vector g.R.CoeffRing.value g.R.CoeffRing.belongs g.M.Monomial.order g.M.Monomial.VARS g.M.Monomial.LIM (g.R.CoeffRing.characteristic c.self.inside.coefficients) c.self.inside.worker monos.vars c.self.inside.rows c.self.inside.writer c.self.inside.reader c.self.inside.lead c.self.inside.place c.self.inside.front c.self.inside.kept c.self.inside.marked c.self.invariant c.args.row.now c.args.self.now c.self.view_is c.requires.row c.look.new.self (record { of = c.look.ensures.of; notes = c.in_default.ensures.kept; count = c.look.ensures.count.0; all = c.in_default.ensures.nothing; loads = c.look.ensures.loads; told = c.look.ensures.told }) c.requires.rows)

pub take_in-news-requires-after_bounds : goal.take_in-news-requires-after_bounds
take_in-news-requires-after_bounds g c κs within =
    let monos = g.met.M.Monomial g.world.𝓛 g.world.𝓜 g.world.𝓡 ((λ s x. x), (λ x. x), (λ x. x), λ x. x) in
    may_take g.M.Monomial.vector g.R.CoeffRing.value g.R.CoeffRing.belongs g.M.Monomial.order g.M.Monomial.VARS g.M.Monomial.LIM (g.R.CoeffRing.characteristic c.self.inside.coefficients) c.self.inside.worker monos.vars c.self.inside.rows c.self.inside.writer c.self.inside.reader c.self.inside.lead c.self.inside.place c.self.inside.front c.self.inside.kept c.self.inside.marked c.self.invariant c.args.row.now c.args.self.now c.self.view_is c.requires.row c.requires.rows c.requires.room c.look.new.self c.in-Ok.note
    (record { of = c.look.ensures.of; notes = c.in-Ok.ensures.known; count = c.look.ensures.count.0; within = c.look.ensures.count.1; found = c.in-Ok.ensures.found; loads = c.look.ensures.loads; told = c.look.ensures.told; fits = c.in-Ok.ensures.fits; legal = c.in-Ok.ensures.legal })

pub invariant_of-self-2 : goal.invariant_of-self-2
invariant_of-self-2 g c =
    let monos = g.met.M.Monomial g.world.𝓛 g.world.𝓜 g.world.𝓡 ((λ s x. x), (λ x. x), (λ x. x), λ x. x) in
    heard_is g.M.Monomial.vector g.R.CoeffRing.value g.R.CoeffRing.belongs g.M.Monomial.order g.M.Monomial.VARS g.M.Monomial.LIM (g.R.CoeffRing.characteristic c.self.inside.coefficients) c.self.inside.worker monos.vars c.self.inside.rows c.self.inside.writer c.self.inside.reader c.self.inside.lead c.self.inside.place c.self.inside.front c.self.inside.kept c.self.inside.marked c.self.invariant c.args.row.now c.args.self.now c.self.view_is c.requires.row c.requires.rows c.requires.room c.look.new.self c.take_in-news.new.rows c.take_in-news.new.place c.take_in-news.result c.lower.result c.in-Ok.note
    (record { of = c.look.ensures.of; notes = c.in-Ok.ensures.known; count = c.look.ensures.count.0; within = c.look.ensures.count.1; found = c.in-Ok.ensures.found; loads = c.look.ensures.loads; told = c.look.ensures.told; fits = c.in-Ok.ensures.fits; legal = c.in-Ok.ensures.legal })
    c.take_in-news.ensures
    (hears g.M.Monomial.vector g.R.CoeffRing.value g.R.CoeffRing.belongs g.M.Monomial.order g.M.Monomial.VARS g.M.Monomial.LIM (g.R.CoeffRing.characteristic c.self.inside.coefficients) c.self.inside.worker monos.vars c.self.inside.rows c.self.inside.writer c.self.inside.reader c.self.inside.lead c.self.inside.place c.self.inside.front c.self.inside.kept c.self.inside.marked c.self.invariant (front_of g.M.Monomial.vector c.take_in-news.result) c.lower.result c.lower.ensures.known c.lower.ensures.news c.lower.ensures.ahead)

pub returns-clause-works : goal.returns-clause-works
returns-clause-works g c =
    let monos = g.met.M.Monomial g.world.𝓛 g.world.𝓜 g.world.𝓡 ((λ s x. x), (λ x. x), (λ x. x), λ x. x) in
    subst (λ (v : WorkerView). Works v (view_of g.M.Monomial.vector g.R.CoeffRing.value c.self.inside.worker c.take_in-news.new.rows c.self.inside.writer c.look.new.self (Some c.lower.result) c.self.inside.kept)) c.self.view_is
    (heard_note g.M.Monomial.vector g.R.CoeffRing.value g.R.CoeffRing.belongs g.M.Monomial.order g.M.Monomial.VARS g.M.Monomial.LIM (g.R.CoeffRing.characteristic c.self.inside.coefficients) c.self.inside.worker monos.vars c.self.inside.rows c.self.inside.writer c.self.inside.reader c.self.inside.lead c.self.inside.place c.self.inside.front c.self.inside.kept c.self.inside.marked c.self.invariant c.args.row.now c.args.self.now c.self.view_is c.requires.row c.requires.rows c.requires.room c.look.new.self c.take_in-news.new.rows c.take_in-news.new.place c.take_in-news.result c.lower.result c.in-Ok.note
    (record { of = c.look.ensures.of; notes = c.in-Ok.ensures.known; count = c.look.ensures.count.0; within = c.look.ensures.count.1; found = c.in-Ok.ensures.found; loads = c.look.ensures.loads; told = c.look.ensures.told; fits = c.in-Ok.ensures.fits; legal = c.in-Ok.ensures.legal })
    c.take_in-news.ensures
    (hears g.M.Monomial.vector g.R.CoeffRing.value g.R.CoeffRing.belongs g.M.Monomial.order g.M.Monomial.VARS g.M.Monomial.LIM (g.R.CoeffRing.characteristic c.self.inside.coefficients) c.self.inside.worker monos.vars c.self.inside.rows c.self.inside.writer c.self.inside.reader c.self.inside.lead c.self.inside.place c.self.inside.front c.self.inside.kept c.self.inside.marked c.self.invariant (front_of g.M.Monomial.vector c.take_in-news.result) c.lower.result c.lower.ensures.known c.lower.ensures.news c.lower.ensures.ahead)).works
