use Rattle.std.proofs.Common.{◌≡◌, map, take}
use Rattle.term_ring.specs.declared.note.NoteOf.TheVariants.{Term}
use Rattle.thread_tests.proofs.rings.whole_list.Given as goal

abbrev pub invariant-loop-i : goal.invariant-loop-i
invariant-loop-i g l = l.out.items ≡ map (λ t. Term t) (take l.i l.terms)
