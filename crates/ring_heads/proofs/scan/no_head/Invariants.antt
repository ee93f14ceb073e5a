use Rattle.std.proofs.Common.{map}
use Rattle.ring_heads.specs.Places.{place_of}
use Rattle.ring_heads.proofs.TopLemmas.{NoneBefore}
use Rattle.ring_heads.proofs.scan.no_head.Given as goal

abbrev pub invariant-loop-head : goal.invariant-loop-head
invariant-loop-head g l = NoneBefore g.M.Ord.cmp (map place_of l.list) l.head-index
