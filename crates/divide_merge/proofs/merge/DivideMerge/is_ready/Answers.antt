use Rattle.std.proofs.Common.{sym, ◌∙◌, true≢false}
use Rattle.divide_merge.specs.Inside.{vector_of}
use Rattle.divide_merge.proofs.Hearing.{low_top}
use Rattle.divide_merge.proofs.merge.DivideMerge.is_ready.Goals as goal

pub returns-then-is_current-clause-yes : goal.returns-then-is_current-clause-yes
returns-then-is_current-clause-yes g c = λ t k.
    k.waits (c.is_current.ensures.0 c.if-is_current.true)
    ((low_top c.self.invariant c.self.view_is (vector_of g.M.Monomial.vector c.args.next) c.args.worker c.requires c.index.result.now c.index.result.now c.index.ensures).0 (c.is_top_low.ensures.0 t))

pub returns-then-is_current-clause-no : goal.returns-then-is_current-clause-no
returns-then-is_current-clause-no g c = λ f. record {
  asked = c.is_asked.ensures.0 c.if-not-is_asked.false;
  waits = λ now low. true≢false
      (sym (c.is_top_low.ensures.1 ((low_top c.self.invariant c.self.view_is (vector_of g.M.Monomial.vector c.args.next) c.args.worker c.requires c.index.result.now c.index.result.now c.index.ensures).1 low)) ∙ f);
}
