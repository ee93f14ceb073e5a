use Rattle.std.proofs.Common.{◌≡◌, ◌-◌, length, refl, sym, ap, ◌∙◌}
use Rattle.std.specs.Int.{div_ceil}
use Rattle.std.proofs.lemmas.List.{length-map}
use Rattle.sdmp_laws.specs.Poly.{terms}
use Rattle.canonical_terms.specs.View.{term_of, sum_of}
use Rattle.row_merge.specs.Rows.{strided}
use Rattle.row_merge.specs.Part.{row_count}
use Rattle.row_merge.proofs.PartLemmas.{part_invariant, rest_begins, range_at}
use Rattle.row_merge.proofs.merge.RowMerge.new.Given as given
use Rattle.row_merge.proofs.merge.RowMerge.new.Goals as goal

len_is : (g : given.Over) (c : goal.After-div_ceil-count g) → length c.terms-terms.result.now ≡ length c.args.set.f.now.list
len_is g c = sym (length-map c.terms-terms.result.now (term_of g.M.Monomial.vector g.R.CoeffRing.value)) ∙ ap length c.terms-terms.ensures.view

count_is : (g : given.Over) (c : goal.After-div_ceil-count g) → c.div_ceil-count.result ≡ row_count (length c.args.set.f.now.list) c.args.set.workers c.args.set.worker
count_is g c = c.div_ceil-count.ensures ∙ ap (λ k. div_ceil k c.args.set.workers) (c.saturating_sub.ensures ∙ ap (λ k. k - c.args.set.worker) (len_is g c))

pub strided_terms-requires-clause-range : goal.strided_terms-requires-clause-range
strided_terms-requires-clause-range g c κs within =
    range_at c.args.set.workers c.args.set.worker (length c.args.set.f.now.list) c.args.set.worker c.args.set.workers c.div_ceil-count.result (length c.terms-terms.result.now) c.requires.worker refl refl (count_is g c) (len_is g c)

len_after : (g : given.Over) (c : goal.In_ok-rows g) → length c.terms-terms.result.now ≡ length c.args.set.f.now.list
len_after g c = sym (length-map c.terms-terms.result.now (term_of g.M.Monomial.vector g.R.CoeffRing.value)) ∙ ap length c.terms-terms.ensures.view

count_after : (g : given.Over) (c : goal.In_ok-rows g) → c.div_ceil-count.result ≡ row_count (length c.args.set.f.now.list) c.args.set.workers c.args.set.worker
count_after g c = c.div_ceil-count.ensures ∙ ap (λ k. div_ceil k c.args.set.workers) (c.saturating_sub.ensures ∙ ap (λ k. k - c.args.set.worker) (len_after g c))

pub invariant_of-result : goal.invariant_of-result
invariant_of-result g c =
    let e = c.in_ok-rows.ensures in (
      part_invariant g.M.Monomial.vector g.M.Monomial.order g.M.Monomial.VARS g.M.Monomial.LIM c.args.set.f.now.modulus c.args.set.g.now.modulus c.args.set.f.now.list c.args.set.g.now.list c.args.set.workers c.args.set.worker (sum_of g.M.Monomial.vector g.R.CoeffRing.value c.in_ok-part.part.items) c.in_ok-rows.rows.reads.items c.in_ok-rows.rows.heap c.in_ok-rows.rows.begun c.div_ceil-count.result
          c.requires.modulus c.requires.worker c.requires.room c.terms-terms.ensures.canonical e.few (count_after g c) (c.in_ok-part.ensures.terms ∙ ap (λ L. strided L c.args.set.worker c.args.set.workers c.div_ceil-count.result) c.terms-terms.ensures.view) e.reads e.heap e.begun,
      c.in_ok-part.ensures.belongs c.args.set.f.now.modulus c.terms-terms.ensures.belongs,
    )

pub returns-clause-rest : goal.returns-clause-rest
returns-clause-rest g c =
    ap (terms g.M.Monomial.order c.args.set.f.now.modulus)
    (rest_begins c.args.set.f.now.list c.args.set.g.now.list c.args.set.workers c.args.set.worker c.div_ceil-count.result c.in_ok-rows.rows.reads.items c.requires.worker (count_after g c) c.in_ok-rows.ensures.reads)
