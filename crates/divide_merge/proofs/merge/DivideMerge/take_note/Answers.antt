use Rattle.std.proofs.Common.{sym, true≢false}
use Rattle.divide_merge.proofs.Taking.{asked, own_reader, idle_kept, missing, found_none, found_term, found_mark, found_end}
use Rattle.divide_merge.proofs.merge.DivideMerge.take_note.Goals as goal

pub pop-requires-after_bounds : goal.pop-requires-after_bounds
pop-requires-after_bounds g c κs within =
    own_reader g.M.Monomial.vector g.R.CoeffRing.value g.R.CoeffRing.belongs _ _ g.M.Monomial.LIM _ _ _ _ c.args.worker c.args.ring.now _
    (asked g.M.Monomial.vector g.R.CoeffRing.value g.R.CoeffRing.belongs _ _ g.M.Monomial.LIM _ _ _ _ c.args.worker c.args.ring.now _ _ c.self.invariant c.self.view_is c.requires.going c.requires.worker c.requires.ring c.index_mut.ensures.value)

pub invariant_of-self : goal.invariant_of-self
invariant_of-self g c =
    let e = c.in_default.ensures in
    idle_kept g.M.Monomial.vector g.R.CoeffRing.value g.R.CoeffRing.belongs _ _ g.M.Monomial.LIM _ _ _ _ c.args.worker c.args.ring.now _
    (asked g.M.Monomial.vector g.R.CoeffRing.value g.R.CoeffRing.belongs _ _ g.M.Monomial.LIM _ _ _ _ c.args.worker c.args.ring.now _ _ c.self.invariant c.self.view_is c.requires.going c.requires.worker c.requires.ring c.index_mut.ensures.value) c.pop.new.self e.of e.kept

pub returns-in_default : goal.returns-in_default
returns-in_default g c =
    let e = c.in_default.ensures in
    let a = (asked g.M.Monomial.vector g.R.CoeffRing.value g.R.CoeffRing.belongs _ _ g.M.Monomial.LIM _ _ _ _ c.args.worker c.args.ring.now _ _ c.self.invariant c.self.view_is c.requires.going c.requires.worker c.requires.ring c.index_mut.ensures.value) in
    let i = found_none a c.self.view_is c.pop.new.self e.of e.kept e.tail e.empty e.refused in
    record { sound = i.sound; looks = i.looks; took = λ t. absurd (true≢false (sym t)); few = λ t. absurd (true≢false (sym t)); same = λ _. i.run; dry = λ _. i.dry; empty = λ _. i.empty }

pub put-requires-clause-missing : goal.put-requires-clause-missing
put-requires-clause-missing g c κs within = missing (asked g.M.Monomial.vector g.R.CoeffRing.value g.R.CoeffRing.belongs _ _ g.M.Monomial.LIM _ _ _ _ c.args.worker c.args.ring.now _ _ c.self.invariant c.self.view_is c.requires.going c.requires.worker c.requires.ring c.index_mut.ensures.value) c.self.view_is c.requires.missing

pub unreachable-requires : goal.unreachable-requires
unreachable-requires g c =
    let e = c.in-Ok.ensures in
    found_end (asked g.M.Monomial.vector g.R.CoeffRing.value g.R.CoeffRing.belongs _ _ g.M.Monomial.LIM _ _ _ _ c.args.worker c.args.ring.now _ _ c.self.invariant c.self.view_is c.requires.going c.requires.worker c.requires.ring c.index_mut.ensures.value) c.self.view_is c.pop.new.self c.in-Ok.note c.in-End.is e.taken e.carries

pub invariant_of-self-in-Term : goal.invariant_of-self-in-Term
invariant_of-self-in-Term g c =
    let e = c.in-Ok.ensures in
    (found_term (asked g.M.Monomial.vector g.R.CoeffRing.value g.R.CoeffRing.belongs _ _ g.M.Monomial.LIM _ _ _ _ c.args.worker c.args.ring.now _ _ c.self.invariant c.self.view_is c.requires.going c.requires.worker c.requires.ring c.index_mut.ensures.value) c.self.view_is c.pop.new.self c.put.new.self c.saturating_add-self-inside.result c.in-Ok.note c.in-Term.term c.put.ensures c.saturating_add-self-inside.ensures c.in-Term.is c.requires.missing e.of e.tail e.unrefused e.taken e.carries e.fits e.few).0

pub returns-in-Term : goal.returns-in-Term
returns-in-Term g c =
    let e = c.in-Ok.ensures in
    let a = (asked g.M.Monomial.vector g.R.CoeffRing.value g.R.CoeffRing.belongs _ _ g.M.Monomial.LIM _ _ _ _ c.args.worker c.args.ring.now _ _ c.self.invariant c.self.view_is c.requires.going c.requires.worker c.requires.ring c.index_mut.ensures.value) in
    let f = (found_term a c.self.view_is c.pop.new.self c.put.new.self c.saturating_add-self-inside.result c.in-Ok.note c.in-Term.term c.put.ensures c.saturating_add-self-inside.ensures c.in-Term.is c.requires.missing e.of e.tail e.unrefused e.taken e.carries e.fits e.few).1 in
    record { sound = f.sound; looks = f.looks; took = λ _. f.took; few = λ _. f.few; same = λ t. absurd (true≢false t); dry = λ t. absurd (true≢false t); empty = λ t. absurd (true≢false t) }

pub invariant_of-self-in-Mark : goal.invariant_of-self-in-Mark
invariant_of-self-in-Mark g c =
    let e = c.in-Ok.ensures in
    (found_mark (asked g.M.Monomial.vector g.R.CoeffRing.value g.R.CoeffRing.belongs _ _ g.M.Monomial.LIM _ _ _ _ c.args.worker c.args.ring.now _ _ c.self.invariant c.self.view_is c.requires.going c.requires.worker c.requires.ring c.index_mut.ensures.value) c.self.view_is c.pop.new.self c.saturating_add-self-inside.result c.in-Ok.note c.in-Mark.known c.in-Mark.top c.saturating_add-self-inside.ensures c.in-Mark.is c.requires.missing e.of e.tail e.unrefused e.taken e.carries e.few).0

pub returns-in-Mark : goal.returns-in-Mark
returns-in-Mark g c =
    let e = c.in-Ok.ensures in
    let a = (asked g.M.Monomial.vector g.R.CoeffRing.value g.R.CoeffRing.belongs _ _ g.M.Monomial.LIM _ _ _ _ c.args.worker c.args.ring.now _ _ c.self.invariant c.self.view_is c.requires.going c.requires.worker c.requires.ring c.index_mut.ensures.value) in
    let f = (found_mark a c.self.view_is c.pop.new.self c.saturating_add-self-inside.result c.in-Ok.note c.in-Mark.known c.in-Mark.top c.saturating_add-self-inside.ensures c.in-Mark.is c.requires.missing e.of e.tail e.unrefused e.taken e.carries e.few).1 in
    record { sound = f.sound; looks = f.looks; took = λ _. f.took; few = λ _. f.few; same = λ t. absurd (true≢false t); dry = λ t. absurd (true≢false t); empty = λ t. absurd (true≢false t) }
