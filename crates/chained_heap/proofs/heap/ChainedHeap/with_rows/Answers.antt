use Rattle.std.proofs.Common.{arith}
use Rattle.chained_heap.proofs.Starts.{starts}
use Rattle.chained_heap.proofs.heap.ChainedHeap.with_rows.Goals as goal

pub invariant_of-result : goal.invariant_of-result
invariant_of-result g c =
    starts g.M.Ord.cmp c.in_ok-nodes.nodes.items c.in_ok-next.next.items c.filled.result.items c.args.rows
    (omega (arith, c.in_ok-nodes.ensures.len, c.in_ok-nodes.nodes.ok.0)) (omega (arith, c.in_ok-next.ensures.len, c.in_ok-next.next.ok.0)) c.filled.ensures (omega (arith, c.ranges.rows.fits))

pub returns : goal.returns
returns g c = c.filled.ensures
