use Rattle.thread_tests.proofs.merges.two_workers_of_the_difference_of_squares.Goals as goal

pub meet-requires-clause-worker : goal.meet-requires-clause-worker
meet-requires-clause-worker g c κs = c.whole.ensures.sound.some
