use Rattle.std.proofs.Common.{[], ◌∷◌}
use Rattle.term_ring.specs.Names.{ring_name}
use Rattle.thread_tests.proofs.Alone.{among_still}
use Rattle.thread_tests.proofs.workers.one_worker_by_its_own_calls.Goals as goal

pub meet-requires-clause-ring : goal.meet-requires-clause-ring
meet-requires-clause-ring g c κs =
    among_still (ring_name c.in_ok-ring.ring ∷ []) c.in_ok-ring.worker.part.sender c.advance.new.self.part.sender c.in_ok-ring.ensures.among c.advance.ensures.sends
