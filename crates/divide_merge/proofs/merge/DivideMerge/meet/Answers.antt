use Rattle.divide_merge.proofs.Meeting.{meets, own_reader, met_kept, met, met_owed, met_row}
use Rattle.divide_merge.proofs.merge.DivideMerge.meet.Goals as goal

pub meet-requires-clause-reader : goal.meet-requires-clause-reader
meet-requires-clause-reader g c κs within =
    own_reader g.M.Monomial.vector g.R.CoeffRing.value g.R.CoeffRing.belongs _ _ g.M.Monomial.LIM _ _ _ _ c.args.worker c.args.ring.now c.args.row.now _
    (meets g.M.Monomial.vector g.R.CoeffRing.value g.R.CoeffRing.belongs _ _ g.M.Monomial.LIM _ _ _ _ c.args.worker c.args.ring.now c.args.row.now _ _ c.self.invariant c.self.view_is c.requires.worker c.requires.ring c.requires.row c.index_mut.ensures.value)

pub invariant_of-self : goal.invariant_of-self
invariant_of-self g c =
    let e = c.meet.ensures in
    let f = c.meet-2.ensures in
    met_kept g.M.Monomial.vector g.R.CoeffRing.value g.R.CoeffRing.belongs _ _ g.M.Monomial.LIM _ _ _ _ c.args.worker c.args.ring.now c.args.row.now _
    (meets g.M.Monomial.vector g.R.CoeffRing.value g.R.CoeffRing.belongs _ _ g.M.Monomial.LIM _ _ _ _ c.args.worker c.args.ring.now c.args.row.now _ _ c.self.invariant c.self.view_is c.requires.worker c.requires.ring c.requires.row c.index_mut.ensures.value)
    c.meet.new.self e.of e.taken c.meet-2.new.writer f.writer f.published

pub returns-clause-run : goal.returns-clause-run
returns-clause-run g c =
    let e = c.meet.ensures in
    let f = c.meet-2.ensures in
    (met g.M.Monomial.vector g.R.CoeffRing.value g.R.CoeffRing.belongs _ _ g.M.Monomial.LIM _ _ _ _ c.args.worker c.args.ring.now c.args.row.now _
    (meets g.M.Monomial.vector g.R.CoeffRing.value g.R.CoeffRing.belongs _ _ g.M.Monomial.LIM _ _ _ _ c.args.worker c.args.ring.now c.args.row.now _ _ c.self.invariant c.self.view_is c.requires.worker c.requires.ring c.requires.row c.index_mut.ensures.value)
    c.meet.new.self e.of e.taken c.meet-2.new.writer f.writer f.published _ _ _ c.self.view_is e.tail e.prefix e.head_seen e.tail_seen).run

pub returns-clause-rings : goal.returns-clause-rings
returns-clause-rings g c =
    let e = c.meet.ensures in
    let f = c.meet-2.ensures in
    (met g.M.Monomial.vector g.R.CoeffRing.value g.R.CoeffRing.belongs _ _ g.M.Monomial.LIM _ _ _ _ c.args.worker c.args.ring.now c.args.row.now _
    (meets g.M.Monomial.vector g.R.CoeffRing.value g.R.CoeffRing.belongs _ _ g.M.Monomial.LIM _ _ _ _ c.args.worker c.args.ring.now c.args.row.now _ _ c.self.invariant c.self.view_is c.requires.worker c.requires.ring c.requires.row c.index_mut.ensures.value)
    c.meet.new.self e.of e.taken c.meet-2.new.writer f.writer f.published _ _ _ c.self.view_is e.tail e.prefix e.head_seen e.tail_seen).rings

pub returns-clause-tails : goal.returns-clause-tails
returns-clause-tails g c =
    let e = c.meet.ensures in
    let f = c.meet-2.ensures in
    (met g.M.Monomial.vector g.R.CoeffRing.value g.R.CoeffRing.belongs _ _ g.M.Monomial.LIM _ _ _ _ c.args.worker c.args.ring.now c.args.row.now _
    (meets g.M.Monomial.vector g.R.CoeffRing.value g.R.CoeffRing.belongs _ _ g.M.Monomial.LIM _ _ _ _ c.args.worker c.args.ring.now c.args.row.now _ _ c.self.invariant c.self.view_is c.requires.worker c.requires.ring c.requires.row c.index_mut.ensures.value)
    c.meet.new.self e.of e.taken c.meet-2.new.writer f.writer f.published _ _ _ c.self.view_is e.tail e.prefix e.head_seen e.tail_seen).tails

pub returns-clause-prefix : goal.returns-clause-prefix
returns-clause-prefix g c =
    let e = c.meet.ensures in
    let f = c.meet-2.ensures in
    (met g.M.Monomial.vector g.R.CoeffRing.value g.R.CoeffRing.belongs _ _ g.M.Monomial.LIM _ _ _ _ c.args.worker c.args.ring.now c.args.row.now _
    (meets g.M.Monomial.vector g.R.CoeffRing.value g.R.CoeffRing.belongs _ _ g.M.Monomial.LIM _ _ _ _ c.args.worker c.args.ring.now c.args.row.now _ _ c.self.invariant c.self.view_is c.requires.worker c.requires.ring c.requires.row c.index_mut.ensures.value)
    c.meet.new.self e.of e.taken c.meet-2.new.writer f.writer f.published _ _ _ c.self.view_is e.tail e.prefix e.head_seen e.tail_seen).prefix

pub returns-clause-reader_seen : goal.returns-clause-reader_seen
returns-clause-reader_seen g c =
    let e = c.meet.ensures in
    let f = c.meet-2.ensures in
    (met g.M.Monomial.vector g.R.CoeffRing.value g.R.CoeffRing.belongs _ _ g.M.Monomial.LIM _ _ _ _ c.args.worker c.args.ring.now c.args.row.now _
    (meets g.M.Monomial.vector g.R.CoeffRing.value g.R.CoeffRing.belongs _ _ g.M.Monomial.LIM _ _ _ _ c.args.worker c.args.ring.now c.args.row.now _ _ c.self.invariant c.self.view_is c.requires.worker c.requires.ring c.requires.row c.index_mut.ensures.value)
    c.meet.new.self e.of e.taken c.meet-2.new.writer f.writer f.published _ _ _ c.self.view_is e.tail e.prefix e.head_seen e.tail_seen).reader_seen

pub returns-clause-writer_seen : goal.returns-clause-writer_seen
returns-clause-writer_seen g c =
    let e = c.meet.ensures in
    let f = c.meet-2.ensures in
    (met g.M.Monomial.vector g.R.CoeffRing.value g.R.CoeffRing.belongs _ _ g.M.Monomial.LIM _ _ _ _ c.args.worker c.args.ring.now c.args.row.now _
    (meets g.M.Monomial.vector g.R.CoeffRing.value g.R.CoeffRing.belongs _ _ g.M.Monomial.LIM _ _ _ _ c.args.worker c.args.ring.now c.args.row.now _ _ c.self.invariant c.self.view_is c.requires.worker c.requires.ring c.requires.row c.index_mut.ensures.value)
    c.meet.new.self e.of e.taken c.meet-2.new.writer f.writer f.published _ _ _ c.self.view_is e.tail e.prefix e.head_seen e.tail_seen).writer_seen

pub returns-clause-owed : goal.returns-clause-owed
returns-clause-owed g c carries =
    let e = c.meet.ensures in
    let f = c.meet-2.ensures in
    met_owed g.M.Monomial.vector g.R.CoeffRing.value g.R.CoeffRing.belongs _ _ g.M.Monomial.LIM _ _ _ _ c.args.worker c.args.ring.now c.args.row.now _
    (meets g.M.Monomial.vector g.R.CoeffRing.value g.R.CoeffRing.belongs _ _ g.M.Monomial.LIM _ _ _ _ c.args.worker c.args.ring.now c.args.row.now _ _ c.self.invariant c.self.view_is c.requires.worker c.requires.ring c.requires.row c.index_mut.ensures.value)
    c.meet.new.self e.of e.taken c.meet-2.new.writer f.writer f.published _ e.prefix carries

pub returns-clause-published : goal.returns-clause-published
returns-clause-published g c =
    met_row g.M.Monomial.vector g.R.CoeffRing.value _ _ c.meet-2.ensures.prefix
