use Rattle.std.proofs.Common.{◌≡◌, ◌≤◌, ◌<◌, ◌*◌, ◌^◌, ℕ}
use Rattle.wide_monomial.specs.Packing.{bits_of}
use Rattle.wide_monomial.specs.Sums.{field}
use Rattle.wide_monomial.proofs.rev_wide.RevWideMonomial.from_words.Given as goal

abbrev pub invariant-loop-i : goal.invariant-loop-i
invariant-loop-i g l = record {
  last_is : l.last ≡ field (bits_of g.row.N) (l.word * 2 ^ bits_of g.row.N) l.i;
  rising : (k : ℕ) → k < l.i → field (bits_of g.row.N) (l.word * 2 ^ bits_of g.row.N) k ≤ field (bits_of g.row.N) l.word k;
}
