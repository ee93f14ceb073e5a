use Rattle.division_tests.proofs.merges.finds_a_term_once_there_is_room.Goals as goal

pub meet-requires-clause-worker : goal.meet-requires-clause-worker
meet-requires-clause-worker g c κs = c.whole.ensures.sound.some
