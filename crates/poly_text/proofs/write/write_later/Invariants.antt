use Rattle.std.proofs.Common.{◌≡◌, ◌++◌, drop}
use Rattle.canonical_terms.specs.View.{sum_of}
use Rattle.text_laws.specs.Canonical.{later_text}
use Rattle.poly_text.specs.Printed.{Extends}
use Rattle.poly_text.proofs.write.write_later.Given as goal

abbrev pub invariant-loop-t : goal.invariant-loop-t
invariant-loop-t g l = record {
  text : l.out.items ++ later_text l.names (sum_of g.M.Monomial.vector g.R.CoeffRing.value (drop l.t-index l.terms))
      ≡ l.fn.out.items ++ later_text l.names (sum_of g.M.Monomial.vector g.R.CoeffRing.value l.terms);
  front : Extends l.fn.out.items l.out.items;
}
