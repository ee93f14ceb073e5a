use Rattle.std.proofs.Common.{◌≤◌, ◌-◌, length, All}
use Rattle.sdmp_laws.specs.Order.{degree}
use Rattle.canonical_terms.specs.View.{sum_of}
use Rattle.text_laws.specs.Grammar.{Tree, Spells}
use Rattle.text_laws.specs.Summands.{summands}
use Rattle.poly_text.proofs.TermLoop.{TermsLeft}
use Rattle.poly_text.proofs.terms.read_terms.Given as goal

abbrev pub invariant-loop-term : goal.invariant-loop-term
invariant-loop-term g l = record {
  within : l.start.at ≤ length l.bytes;
  belongs : All (λ t. g.R.CoeffRing.belongs (g.R.CoeffRing.characteristic l.ring) t.coef) l.terms.items;
  degrees : All (λ t. degree (g.M.Monomial.vector t.mono) ≤ g.M.Monomial.LIM) l.terms.items;
  left : (t : Tree) → Spells t l.bytes
      → TermsLeft l.names l.bytes (g.R.CoeffRing.characteristic l.ring) g.M.Monomial.LIM (summands t) l.start.at l.start.negative l.sum l.degree_at l.coefficient_at (sum_of g.M.Monomial.vector g.R.CoeffRing.value l.terms.items);
}

abbrev pub decreases-loop-term : goal.decreases-loop-term
decreases-loop-term g l = length l.initial.bytes - l.start.at
