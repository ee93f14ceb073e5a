use Rattle.global_heap.specs.Merges.{IsSound, Fills}
use Rattle.global_heap.proofs.merge.Merge.fill.Given as goal

abbrev pub invariant-loop-worker : goal.invariant-loop-worker
invariant-loop-worker g l = record {
  sound : IsSound g.M.Monomial.LIM l.self;
  fills : Fills l.initial.self l.self l.worker l.starved;
}
