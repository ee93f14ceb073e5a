use Rattle.std.proofs.Common.{◌≡◌, ◌*◌, ◌^◌, ◌≤◌, sum, take}
use Rattle.wide_monomial.specs.Packing.{bits_of}
use Rattle.packed_monomial.specs.Laws.{front_word}
use Rattle.wide_monomial.proofs.wide.WideMonomial.pack.Given as goal

abbrev pub invariant-loop-e : goal.invariant-loop-e
invariant-loop-e g l = record { is : l.degree ≡ sum (take l.e-index l.exponents); small : l.degree ≤ l.e-index * 2 ^ 32 }

abbrev pub invariant-loop-e-2 : goal.invariant-loop-e-2
invariant-loop-e-2 g l = l.word ≡ front_word (bits_of g.row.N) l.exponents l.e-index
