use Rattle.std.proofs.Common.{List, get_or, map, refl, ◌∙◌, subst, arith}
use Rattle.std.proofs.lemmas.List.{length-map}
use Rattle.term_ring.specs.Names.{RingName, NoneBelow-itself}
use Rattle.term_ring.specs.Sending.{IsAmong}
use Rattle.global_heap.proofs.Steps.{NoneBelow-trans}
use Rattle.divide_workers.specs.Views.{sender_of}
use Rattle.divide_workers.proofs.TeamSteps.{member_among, meets_first, member_here, met_here, all_met, are_workers}
use Rattle.divide_workers.proofs.round.meet_all.Goals as goal

pub meet-requires-clause-ring : goal.meet-requires-clause-ring
meet-requires-clause-ring g c κs within =
    let i = c.loop-worker.invariant in
    let r = c.index-workers-worker.result in
    let m = member_here (λ w. w.worker.sender) g.M.Monomial.LIM c.args.merge.now.rings c.args.merge.now.row c.loop-worker.merge c.args.workers.now c.loop-worker.workers c.loop-worker.worker r c.requires.members i.meets c.loop-worker-test.true in
    let w = get_or c.loop-worker.workers c.loop-worker.worker r in
    subst (λ (n : List RingName). IsAmong n (sender_of w.worker.sender)) c.requires.rings (member_among c.args.merge.now.rings c.args.merge.now.row c.loop-worker.worker w.worker.sender m)

pub meet-requires-clause-reader : goal.meet-requires-clause-reader
meet-requires-clause-reader g c κs within =
    let i = c.loop-worker.invariant in
    let r = c.index-workers-worker.result in
    (member_here (λ w. w.worker.sender) g.M.Monomial.LIM c.args.merge.now.rings c.args.merge.now.row c.loop-worker.merge c.args.workers.now c.loop-worker.workers c.loop-worker.worker r c.requires.members i.meets c.loop-worker-test.true).row_is ∙ c.requires.row

pub loop-worker-init : goal.loop-worker-init
loop-worker-init g c = record {
  run = refl;
  rings = refl;
  row = refl;
  spare = refl;
  tails = NoneBelow-itself c.args.merge.now.tails;
  meets = meets_first g.M.Monomial.LIM c.args.merge.now (map (λ w. w.worker.sender) c.args.workers.now);
}

pub loop-worker-preserved : goal.loop-worker-preserved
loop-worker-preserved g c =
    let i = c.loop-worker.invariant in
    let e = c.meet.ensures in
    record {
      run = e.run ∙ i.run;
      rings = e.rings ∙ i.rings;
      row = e.row ∙ i.row;
      spare = e.spare ∙ i.spare;
      tails = NoneBelow-trans _ _ _ i.tails e.tails;
      meets = met_here (λ w. w.worker.sender) g.M.Monomial.LIM c.loop-worker.merge c.meet.new.merge c.args.workers.now c.loop-worker.workers c.loop-worker.worker c.index-workers-worker.result _ c.meet.new.self.sender refl i.meets e.run e.tails (let t = c.loop-worker-test.true in let l = c.loop-worker.auto.workers in omega (arith, t, l)) e.meets c.whole.ensures;
    }

pub returns-clause-meet : goal.returns-clause-meet
returns-clause-meet g c = all_met g.M.Monomial.LIM c.loop-worker.merge (map (λ w. w.worker.sender) c.args.workers.now) (map (λ w. w.worker.sender) c.loop-worker.workers) c.loop-worker.worker c.loop-worker.invariant.meets
    (let l = length-map c.args.workers.now (λ w. w.worker.sender) in let t = c.loop-worker-test.false in omega (arith, l, t))

pub returns-clause-workers : goal.returns-clause-workers
returns-clause-workers g c = are_workers g.M.Monomial.LIM c.loop-worker.merge (map (λ w. w.worker.sender) c.args.workers.now) (map (λ w. w.worker.sender) c.loop-worker.workers) c.loop-worker.worker c.loop-worker.invariant.meets
    (let l = length-map c.args.workers.now (λ w. w.worker.sender) in let t = c.loop-worker-test.false in omega (arith, l, t))
