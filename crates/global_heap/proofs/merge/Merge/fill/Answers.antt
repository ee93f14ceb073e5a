use Rattle.std.proofs.Common.{◌≡◌, ◌∙◌, ◌<◌, ◌+◌, ℕ, length, subst, sym, ap, arith}
use Rattle.std.proofs.lemmas.List.{length-map}
use Rattle.term_ring.specs.Names.{ring_name}
use Rattle.global_heap.specs.Merges.{Fills}
use Rattle.global_heap.proofs.Steps.{fill_begins, fill_served, fill_takes, fill_misses, first_is, first_stays}
use Rattle.global_heap.proofs.merge.Merge.fill.Goals.{then-is_none, else-is_none}
use Rattle.global_heap.proofs.merge.Merge.fill.Goals as goal

pub loop-worker-init : goal.loop-worker-init
loop-worker-init g c = record { sound = c.requires.sound; fills = fill_begins c.args.self.now }

pub returns-clause-fills : goal.returns-clause-fills
returns-clause-fills g c =
    let long = ap (λ rs. length rs) c.requires.rings ∙ length-map c.args.rings.now ring_name in
    let count = c.requires.sound.rings_count in
    let e : c.loop-worker.worker ≡ c.args.self.now.state.workers = omega (arith, long, count, c.loop-worker-test.false, c.loop-worker.auto.worker-end) in
    subst (λ (n : ℕ). Fills c.args.self.now c.loop-worker.self n c.loop-worker.starved) e c.loop-worker.invariant.fills

pub loop-worker-preserved-then-not-wants : goal.loop-worker-preserved-then-not-wants
loop-worker-preserved-then-not-wants g c =
    let inv = c.loop-worker.invariant in
    record { sound = inv.sound; fills = fill_served c.args.self.now c.loop-worker.self c.loop-worker.worker c.loop-worker.starved inv.fills (c.wants.ensures.no c.if-not-wants.true) }

pub loop-worker-preserved-then-take_note : goal.loop-worker-preserved-then-take_note
loop-worker-preserved-then-take_note g c =
    let inv = c.loop-worker.invariant in
    let long = ap (λ rs. length rs) c.requires.rings ∙ length-map c.args.rings.now ring_name in
    let count = c.requires.sound.rings_count in
    let same = inv.fills.workers in
    let below : c.loop-worker.worker < c.loop-worker.self.state.workers = omega (arith, long, count, same, c.loop-worker-test.true) in
    record {
      sound = c.take_note.ensures.sound;
      fills = fill_takes g.M.Monomial.LIM c.args.self.now c.loop-worker.self c.take_note.new.self c.loop-worker.worker c.loop-worker.starved inv.fills inv.sound below c.take_note.ensures.looks (c.take_note.ensures.took c.if-take_note.true);
    }

pub loop-worker-preserved : goal.loop-worker-preserved
loop-worker-preserved g c =
    let inv = c.loop-worker.invariant in
    let no = c.if-take_note.false in
    let asked = fill_misses c.args.self.now c.loop-worker.self c.take_note.new.self c.loop-worker.worker c.loop-worker.starved inv.fills c.take_note.ensures.looks
    (c.take_note.ensures.same no) (c.take_note.ensures.dry no) (c.take_note.ensures.empty no) (c.wants.ensures.yes c.if-not-wants.false) in
    let i = c.loop-worker.worker in
    let o = c.loop-worker.starved in
    record {
      sound = c.take_note.ensures.sound;
      fills = elim c.if-is_none.branch as (λ _. Fills c.args.self.now c.take_note.new.self (i + 1) c.if-is_none.starved) [
        | then-is_none w ↦ subst (Fills c.args.self.now c.take_note.new.self (i + 1)) (first_is o c.is_none.result i c.is_none.ensures w.if-is_none.true ∙ sym w.starved-is) asked
        | else-is_none w ↦ subst (Fills c.args.self.now c.take_note.new.self (i + 1)) (first_stays o c.is_none.result i c.is_none.ensures w.if-is_none.false ∙ sym w.starved-is) asked
      ];
    }
