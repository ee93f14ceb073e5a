use Rattle.std.proofs.Common.{◌≡◌, ◌*◌, ◌^◌, ◌≤◌, sum, take}
use Rattle.wide_monomial.specs.Packing.{bits_of}
use Rattle.wide_monomial.specs.Sums.{sums_word}
use Rattle.wide_monomial.proofs.rev_wide.RevWideMonomial.pack.Given as goal

abbrev pub invariant-loop-e : goal.invariant-loop-e
invariant-loop-e g l = record { is : l.degree ≡ sum (take l.e-index l.exponents); small : l.degree ≤ l.e-index * 2 ^ 32 }

abbrev pub invariant-loop-e-2 : goal.invariant-loop-e-2
invariant-loop-e-2 g l = record {
  word_is : l.word ≡ sums_word (bits_of g.row.N) (take l.e-index l.exponents);
  sum_is : l.sum ≡ sum (take l.e-index l.exponents);
  place_is : l.place ≡ l.e-index * bits_of g.row.N;
}
