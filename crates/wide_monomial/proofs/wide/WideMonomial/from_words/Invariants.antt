use Rattle.std.proofs.Common.{◌≡◌}
use Rattle.sdmp_laws.specs.Order.{degree}
use Rattle.packed_monomial.specs.Fields.{fields}
use Rattle.wide_monomial.specs.Packing.{bits_of}
use Rattle.wide_monomial.proofs.wide.WideMonomial.from_words.Given as goal

abbrev pub invariant-loop-i : goal.invariant-loop-i
invariant-loop-i g l = l.sum ≡ degree (fields (bits_of g.row.N) l.i l.word)
