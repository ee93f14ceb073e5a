use Rattle.std.proofs.Common.{◌≡◌, ℕ, ◌+◌, ◌-◌, ◌*◌, ◌^◌, ◌<◌, ◌≤◌, None, length}
use Rattle.sdmp_laws.specs.Poly.{terms}
use Rattle.canonical_terms.specs.View.{sum_of}
use Rattle.row_merge.specs.Learned.{AreRows, unread}
use Rattle.row_merge.specs.Rows.{made, entered, IsCounted}
use Rattle.row_merge.proofs.rows.Rows.next_term.Given as goal

abbrev pub invariant-loop-term : goal.invariant-loop-term
invariant-loop-term g l = record {
  begun : l.self.begun ≡ l.initial.self.begun;
  rows : AreRows g.M.Monomial.vector g.M.Monomial.order None (sum_of g.M.Monomial.vector g.R.CoeffRing.value l.columns) (sum_of g.M.Monomial.vector g.R.CoeffRing.value l.terms) l.self.reads.items l.self.heap;
  terms_are : terms g.M.Monomial.order (g.R.CoeffRing.characteristic l.ring) (unread (sum_of g.M.Monomial.vector g.R.CoeffRing.value l.terms) l.initial.self.reads.items (sum_of g.M.Monomial.vector g.R.CoeffRing.value l.columns))
      ≡ terms g.M.Monomial.order (g.R.CoeffRing.characteristic l.ring) (unread (sum_of g.M.Monomial.vector g.R.CoeffRing.value l.terms) l.self.reads.items (sum_of g.M.Monomial.vector g.R.CoeffRing.value l.columns));
  grows : made l.initial.self.reads.items ≤ made l.self.reads.items;
  compares : (k : ℕ) → length l.initial.self.heap < 2 ^ k → l.steps.compares + k * entered l.initial.self.reads.items l.initial.self.heap + 2 * k * made l.initial.self.reads.items ≤ l.initial.steps.compares + k * entered l.self.reads.items l.self.heap + 2 * k * made l.self.reads.items;
  products : IsCounted l.initial.steps.products (made l.self.reads.items - made l.initial.self.reads.items) l.steps.products;
}

abbrev pub decreases-loop-term : goal.decreases-loop-term
decreases-loop-term g l = length l.terms * length l.columns - made l.self.reads.items
