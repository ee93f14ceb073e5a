use Rattle.std.proofs.Common.{◌≡◌, ◌+◌, ◌*◌, ◌++◌, ◌∷◌, [], All, sym, ap, subst, ◌∙◌}
use Rattle.std.proofs.lemmas.List.Elements.{All-nil, All-push, All-get_or}
use Rattle.canonical_terms.specs.View.{sum_of}
use Rattle.row_merge.proofs.Falls.{none_strided, more_strided}
use Rattle.row_merge.proofs.merge.strided_terms.Goals as goal

pub loop-slot-init : goal.loop-slot-init
loop-slot-init g c =
    let none = c.reserve.ensures.items ∙ c.new-part.ensures.items in
    record {
      terms = ap (sum_of g.M.Monomial.vector g.R.CoeffRing.value) none ∙ none_strided (sum_of g.M.Monomial.vector g.R.CoeffRing.value c.args.terms.now) c.args.first c.args.stride;
      belongs = λ p h. subst (λ ts. All (λ t. g.R.CoeffRing.belongs p t.coef) ts) (sym none) (All-nil _);
    }

pub loop-slot-preserved : goal.loop-slot-preserved
loop-slot-preserved g c =
    let k = c.args.first + c.args.stride * c.loop-slot.slot in
    let x = c.index-terms-first.result in
    let low = c.requires.range c.loop-slot.slot c.loop-slot-test.true in
    let items : c.push.new.self.items ≡ c.loop-slot.part.items ++ x ∷ [] = c.in_ok-push.ensures.items in
    record {
      terms = more_strided g.M.Monomial.vector g.R.CoeffRing.value c.args.terms.now c.loop-slot.part.items c.push.new.self.items c.args.first c.args.stride c.loop-slot.slot x low c.loop-slot.invariant.terms (items ∙ ap (λ t. c.loop-slot.part.items ++ t ∷ []) c.index-terms-first.is);
      belongs = λ p h. subst (λ ts. All (λ t. g.R.CoeffRing.belongs p t.coef) ts) (sym items)
          (All-push (λ t. g.R.CoeffRing.belongs p t.coef) c.loop-slot.part.items x (c.loop-slot.invariant.belongs p h) (subst (λ t. g.R.CoeffRing.belongs p t.coef) (sym c.index-terms-first.is) (All-get_or (λ t. g.R.CoeffRing.belongs p t.coef) c.args.terms.now k x low h)));
    }
