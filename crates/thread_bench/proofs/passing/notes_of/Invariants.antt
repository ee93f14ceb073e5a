use Rattle.std.proofs.Common.{◌≡◌, map, take}
use Rattle.term_ring.specs.declared.note.NoteOf.TheVariants.{Term}
use Rattle.thread_bench.proofs.passing.notes_of.Given as goal

abbrev pub invariant-loop-i : goal.invariant-loop-i
invariant-loop-i g l = l.notes.items ≡ map (λ t. Term t) (take l.i l.terms)
