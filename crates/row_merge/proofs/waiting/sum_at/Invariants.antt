use Rattle.std.proofs.Common.{◌≡◌, ℕ, ◌+◌, ◌-◌, ◌*◌, ◌^◌, ◌<◌, ◌≤◌, length, Some}
use Rattle.canonical_terms.specs.View.{sum_of}
use Rattle.row_merge.specs.Rows.{made, entered, taken_rows, IsCounted}
use Rattle.row_merge.specs.Learned.{unread, AreRows}
use Rattle.row_merge.proofs.ProductSums.{Summing}
use Rattle.row_merge.proofs.waiting.sum_at.Given as goal

abbrev pub invariant-loop-row : goal.invariant-loop-row
invariant-loop-row g l = record {
  rows : AreRows g.M.Monomial.vector g.M.Monomial.order (Some (g.M.Monomial.vector l.mono)) (sum_of g.M.Monomial.vector g.R.CoeffRing.value l.learned) (sum_of g.M.Monomial.vector g.R.CoeffRing.value l.rows) l.reads l.heap;
  summing : Summing g.M.Monomial.order (g.R.CoeffRing.characteristic l.ring) (g.M.Monomial.vector l.mono) (unread (sum_of g.M.Monomial.vector g.R.CoeffRing.value l.rows) l.initial.reads (sum_of g.M.Monomial.vector g.R.CoeffRing.value l.learned)) (unread (sum_of g.M.Monomial.vector g.R.CoeffRing.value l.rows) l.reads (sum_of g.M.Monomial.vector g.R.CoeffRing.value l.learned)) (g.R.CoeffRing.sum_value (g.R.CoeffRing.characteristic l.ring) l.sum);
  in_ring : g.R.CoeffRing.sum_belongs (g.R.CoeffRing.characteristic l.ring) l.sum;
  counts : made l.reads + taken_rows l.heap ≡ made l.initial.reads + taken_rows l.initial.heap;
  grows : made l.initial.reads ≤ made l.reads;
  compares : (k : ℕ) → length l.initial.heap < 2 ^ k → l.steps.compares + k * entered l.initial.reads l.initial.heap ≤ l.initial.steps.compares + k * entered l.reads l.heap;
  products : IsCounted l.initial.steps.products (made l.reads - made l.initial.reads) l.steps.products;
}

abbrev pub decreases-loop-row : goal.decreases-loop-row
decreases-loop-row g l = length (unread (sum_of g.M.Monomial.vector g.R.CoeffRing.value l.rows) l.reads (sum_of g.M.Monomial.vector g.R.CoeffRing.value l.learned))
