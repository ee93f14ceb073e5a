use Rattle.std.proofs.Common.{map}
use Rattle.ring_heads.specs.Places.{place_of}
use Rattle.ring_heads.proofs.TopLemmas.{TopBefore}
use Rattle.ring_heads.proofs.scan.greatest.Given as goal

abbrev pub invariant-loop-head : goal.invariant-loop-head
invariant-loop-head g l = TopBefore g.M.Ord.cmp (map place_of l.list) l.head-index l.top
