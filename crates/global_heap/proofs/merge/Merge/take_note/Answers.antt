use Rattle.std.proofs.Common.{sym, ap, ◌∙◌, ◌∷◌, [], ◌++◌, arith, true≢false}
use Rattle.term_ring.specs.Ends.{taken}
use Rattle.global_heap.proofs.Asking.{asked, own_reader, idle_kept, idle, dry, empty, room, unmarked, missing, found_term, found_end}
use Rattle.global_heap.proofs.merge.Merge.take_note.Goals as goal

pub pop-requires-after_bounds : goal.pop-requires-after_bounds
pop-requires-after_bounds g c κs within = own_reader (asked c.args.ring.now c.self.invariant c.self.view_is c.requires.worker c.requires.ring c.index_mut.ensures.value)

pub invariant_of-self : goal.invariant_of-self
invariant_of-self g c =
    let e = c.in_default.ensures in
    idle_kept (asked c.args.ring.now c.self.invariant c.self.view_is c.requires.worker c.requires.ring c.index_mut.ensures.value) c.pop.new.self e.of e.kept

pub returns-in_default : goal.returns-in_default
returns-in_default g c =
    let e = c.in_default.ensures in
    let a = asked c.args.ring.now c.self.invariant c.self.view_is c.requires.worker c.requires.ring c.index_mut.ensures.value in
    let i = idle a c.pop.new.self c.self.view_is e.of e.kept e.tail (let l = e.refused in omega arith) in
    record { sound = i.sound; looks = i.looks; took = λ t. absurd (true≢false (sym t)); same = λ _. i.state; dry = λ _. dry a c.pop.new.self c.self.view_is e.kept e.empty; empty = λ _. empty a c.pop.new.self c.self.view_is e.refused }

pub overflow_add-self : goal.overflow_add-self
overflow_add-self g c =
    let e = c.in-Ok.ensures in
    let r = room (asked c.args.ring.now c.self.invariant c.self.view_is c.requires.worker c.requires.ring c.index_mut.ensures.value) c.pop.new.self c.in-Ok.note c.self.view_is c.requires.wanting e.taken e.carries in omega arith

pub put-requires-clause-missing : goal.put-requires-clause-missing
put-requires-clause-missing g c κs within = missing (asked c.args.ring.now c.self.invariant c.self.view_is c.requires.worker c.requires.ring c.index_mut.ensures.value) c.self.view_is c.requires.wanting

pub end-requires-clause-missing : goal.end-requires-clause-missing
end-requires-clause-missing g c κs within = missing (asked c.args.ring.now c.self.invariant c.self.view_is c.requires.worker c.requires.ring c.index_mut.ensures.value) c.self.view_is c.requires.wanting

pub unreachable-requires : goal.unreachable-requires
unreachable-requires g c =
    let e = c.in-Ok.ensures in
    unmarked (asked c.args.ring.now c.self.invariant c.self.view_is c.requires.worker c.requires.ring c.index_mut.ensures.value) c.pop.new.self _ _ (e.taken ∙ ap (λ z. taken c.index_mut.result.now ++ z ∷ []) c.in-Mark.is) e.carries

pub invariant_of-self-in-Term : goal.invariant_of-self-in-Term
invariant_of-self-in-Term g c =
    let e = c.in-Ok.ensures in
    (found_term (asked c.args.ring.now c.self.invariant c.self.view_is c.requires.worker c.requires.ring c.index_mut.ensures.value) c.pop.new.self c.put.new.self c.in-Ok.note c.in-Term.term c.self.view_is c.requires.wanting e.of e.tail e.unrefused e.taken e.carries e.fits c.in-Term.is c.put.ensures).kept

pub returns-in-Term : goal.returns-in-Term
returns-in-Term g c =
    let e = c.in-Ok.ensures in
    let f = found_term (asked c.args.ring.now c.self.invariant c.self.view_is c.requires.worker c.requires.ring c.index_mut.ensures.value) c.pop.new.self c.put.new.self c.in-Ok.note c.in-Term.term c.self.view_is c.requires.wanting e.of e.tail e.unrefused e.taken e.carries e.fits c.in-Term.is c.put.ensures in
    record { sound = f.sound; looks = f.looks; took = λ _. f.took; same = λ t. absurd (true≢false t); dry = λ t. absurd (true≢false t); empty = λ t. absurd (true≢false t) }

pub invariant_of-self-in-End : goal.invariant_of-self-in-End
invariant_of-self-in-End g c =
    let e = c.in-Ok.ensures in
    (found_end (asked c.args.ring.now c.self.invariant c.self.view_is c.requires.worker c.requires.ring c.index_mut.ensures.value) c.pop.new.self c.end.new.self c.in-Ok.note c.self.view_is c.requires.wanting e.of e.tail e.unrefused e.taken e.carries c.in-End.is c.end.ensures).kept

pub returns-in-End : goal.returns-in-End
returns-in-End g c =
    let e = c.in-Ok.ensures in
    let f = found_end (asked c.args.ring.now c.self.invariant c.self.view_is c.requires.worker c.requires.ring c.index_mut.ensures.value) c.pop.new.self c.end.new.self c.in-Ok.note c.self.view_is c.requires.wanting e.of e.tail e.unrefused e.taken e.carries c.in-End.is c.end.ensures in
    record { sound = f.sound; looks = f.looks; took = λ _. f.took; same = λ t. absurd (true≢false t); dry = λ t. absurd (true≢false t); empty = λ t. absurd (true≢false t) }
