use Rattle.std.proofs.Common.{◌∙◌, sym, true≢false}
use Rattle.term_ring.specs.Names.{ring_name}
use Rattle.divide_merge.proofs.Filling.{one_begins, one_takes, one_idle, fewer_left, one_below, same_ring, asked_later}
use Rattle.divide_merge.proofs.merge.DivideMerge.fill_one.Goals as goal

pub loop-self-init : goal.loop-self-init
loop-self-init g c = one_begins g.M.Monomial.LIM c.args.self.now c.args.worker c.requires.sound

pub is_missing-requires-after_bounds : goal.is_missing-requires-after_bounds
is_missing-requires-after_bounds g c κs within = one_below g.M.Monomial.LIM c.args.self.now c.loop-self.self c.args.worker c.loop-self.invariant c.requires.worker

pub take_note-requires-clause-going : goal.take_note-requires-clause-going
take_note-requires-clause-going g c κs within = c.loop-self.invariant.fills.answer ∙ c.requires.going

pub take_note-requires-clause-worker : goal.take_note-requires-clause-worker
take_note-requires-clause-worker g c κs within = one_below g.M.Monomial.LIM c.args.self.now c.loop-self.self c.args.worker c.loop-self.invariant c.requires.worker

pub take_note-requires-clause-missing : goal.take_note-requires-clause-missing
take_note-requires-clause-missing g c κs within = c.is_missing.ensures.0 c.loop-self-test.true

pub take_note-requires-clause-ring : goal.take_note-requires-clause-ring
take_note-requires-clause-ring g c κs within = same_ring c.args.self.now c.loop-self.self c.args.worker (ring_name c.args.ring.now) c.loop-self.invariant.fills c.requires.ring

pub loop-self-preserved : goal.loop-self-preserved
loop-self-preserved g c =
    let e = c.take_note.ensures in
    one_takes g.M.Monomial.LIM c.args.self.now c.loop-self.self c.take_note.new.self c.args.worker c.loop-self.invariant c.requires.worker e.sound e.looks (e.took c.if-not-take_note.false)

pub loop-self-smaller : goal.loop-self-smaller
loop-self-smaller g c =
    let e = c.take_note.ensures in
    let yes = c.if-not-take_note.false in
    fewer_left g.M.Monomial.LIM c.args.self.now c.loop-self.self c.take_note.new.self c.args.worker c.loop-self.invariant c.requires.worker (e.took yes) (e.few yes)

pub returns-then-not-take_note : goal.returns-then-not-take_note
returns-then-not-take_note g c =
    let e = c.take_note.ensures in
    let no = c.if-not-take_note.true in
    let f = one_idle g.M.Monomial.LIM c.args.self.now c.loop-self.self c.take_note.new.self c.args.worker c.loop-self.invariant e.sound e.looks (e.same no) in
    record { sound = f.sound; fills = f.fills; others = f.alone; asked = asked_later c.args.self.now c.loop-self.self c.take_note.new.self c.args.worker c.loop-self.invariant.fills.looks (λ none. (e.dry no, e.empty no)) }

pub returns : goal.returns
returns g c =
    let f = c.loop-self.invariant in
    record { sound = f.sound; fills = f.fills; others = f.alone; asked = λ none. absurd (true≢false (sym (c.is_missing.ensures.1 none) ∙ c.loop-self-test.false)) }
