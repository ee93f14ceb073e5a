use Rattle.std.proofs.Common.{◌≡◌, ◌%◌, ◌++◌, ◌∷◌, [], cond, eq-eqb, sym, ◌∙◌, subst, All}
use Rattle.std.proofs.lemmas.List.Elements.{All-nil, All-push, All-get_or}
use Rattle.row_merge.proofs.LearnedRows.{none_first, later_more, later_skip}
use Rattle.row_merge.proofs.quotient_rows.later_rows.Goals as goal

pub loop-place-init : goal.loop-place-init
loop-place-init g c = record {
  terms = none_first g.M.Monomial.vector g.R.CoeffRing.value c.args.workers c.args.worker c.args.terms.now c.new-rows.result.items c.new-rows.ensures.items;
  belongs = λ p h. subst (λ ts. All (λ t. g.R.CoeffRing.belongs p t.coef) ts) (sym c.new-rows.ensures.items) (All-nil _);
}

pub loop-place-preserved-then-place-workers : goal.loop-place-preserved-then-place-workers
loop-place-preserved-then-place-workers g c = record {
  terms = later_skip g.M.Monomial.vector g.R.CoeffRing.value c.args.workers c.args.worker c.loop-place.place c.args.terms.now c.loop-place.rows.items c.loop-place.auto.place c.loop-place-test.true c.loop-place.invariant.terms c.if-place-workers.true;
  belongs = c.loop-place.invariant.belongs;
}

pub loop-place-preserved : goal.loop-place-preserved
loop-place-preserved g c =
    let x = c.index-terms-place.result in
    let items : c.push.new.self.items ≡ c.loop-place.rows.items ++ c.index-terms-place.result ∷ [] = c.in_ok-push.ensures.items in
    record {
      terms = later_more g.M.Monomial.vector g.R.CoeffRing.value c.args.workers c.args.worker c.loop-place.place c.args.terms.now c.loop-place.rows.items c.push.new.self.items c.index-terms-place.result c.loop-place.auto.place c.loop-place-test.true c.loop-place.invariant.terms
          (items ∙ (λ i. c.loop-place.rows.items ++ cond (sym (eq-eqb (c.loop-place.place % c.args.workers) c.args.worker c.if-place-workers.false) i) (c.index-terms-place.is i ∷ []) []));
      belongs = λ p h. subst (λ ts. All (λ t. g.R.CoeffRing.belongs p t.coef) ts) (sym items)
          (All-push (λ t. g.R.CoeffRing.belongs p t.coef) c.loop-place.rows.items x (c.loop-place.invariant.belongs p h) (subst (λ t. g.R.CoeffRing.belongs p t.coef) (sym c.index-terms-place.is) (All-get_or (λ t. g.R.CoeffRing.belongs p t.coef) c.args.terms.now c.loop-place.place x c.loop-place-test.true h)));
    }
