use Rattle.std.proofs.Common.{◌+◌, ◌*◌, ◌≤◌, subst, arith, le_refl}
use Rattle.std.specs.List.{sum_by}
use Rattle.canonical_terms.specs.View.{sum_of}
use Rattle.chained_heap.specs.Shape.{present}
use Rattle.row_merge.specs.Rows.{IsRows}
use Rattle.row_merge.proofs.RowLists.{long_sum}
use Rattle.row_merge.proofs.LearnedRows.{degrees_of}
use Rattle.row_merge.proofs.RowSteps.{none_out, rows_begin}
use Rattle.row_merge.proofs.rows.Rows.start.Goals as goal

pub insert_if-requires-clause-within : goal.insert_if-requires-clause-within
insert_if-requires-clause-within g c κs within = λ o.
    let A = (sum_of g.M.Monomial.vector g.R.CoeffRing.value c.args.terms.now) in
    let B = (sum_of g.M.Monomial.vector g.R.CoeffRing.value c.args.columns.now) in
    let q = c.has_product-some.ensures.0 o in
    let rows = subst (λ b. IsRows g.M.Monomial.vector g.M.Monomial.order A B c.args.self.now.reads.items c.args.self.now.heap b) c.if-self.false c.requires.rows in
    let l = long_sum g.M.Monomial.vector g.R.CoeffRing.value c.args.terms.now in
    (q.0, q.1, omega (arith, q.0, l, rows.places_count), none_out g.M.Monomial.vector g.M.Monomial.order A c.args.self.now.reads.items c.args.self.now.heap rows (omega (arith, q.0, l)))

pub insert_if-requires-clause-rows_low : goal.insert_if-requires-clause-rows_low
insert_if-requires-clause-rows_low g c κs within = degrees_of g.M.Monomial.vector g.R.CoeffRing.value g.M.Monomial.LIM g.M.Monomial.LIM c.args.terms.now (le_refl _) c.requires.terms_fall.degrees

pub insert_if-requires-clause-learned_low : goal.insert_if-requires-clause-learned_low
insert_if-requires-clause-learned_low g c κs within = degrees_of g.M.Monomial.vector g.R.CoeffRing.value g.M.Monomial.LIM g.M.Monomial.LIM c.args.columns.now (le_refl _) c.requires.columns_fall.degrees

pub returns-clause-rows : goal.returns-clause-rows
returns-clause-rows g c =
    let A = (sum_of g.M.Monomial.vector g.R.CoeffRing.value c.args.terms.now) in
    let B = (sum_of g.M.Monomial.vector g.R.CoeffRing.value c.args.columns.now) in
    let rows = subst (λ b. IsRows g.M.Monomial.vector g.M.Monomial.order A B c.args.self.now.reads.items c.args.self.now.heap b) c.if-self.false c.requires.rows in
    let l = long_sum g.M.Monomial.vector g.R.CoeffRing.value c.args.terms.now in
    let m = long_sum g.M.Monomial.vector g.R.CoeffRing.value c.args.columns.now in
    rows_begin g.M.Monomial.vector g.M.Monomial.order B A c.args.self.now.reads.items c.args.self.now.heap c.insert_if.new.heap _ rows
    (λ o. let q = c.has_product-some.ensures.0 o in (omega (arith, q.0, l), omega (arith, q.1, m)))
    (λ q. c.has_product-some.ensures.1 (omega (arith, q.0, l), omega (arith, q.1, m)))
    c.insert_if.ensures.moved

pub returns-clause-compares : goal.returns-clause-compares
returns-clause-compares g c = λ l b.
    let i : c.insert_if.new.steps.compares + l * sum_by present c.args.self.now.heap ≤ c.args.steps.now.compares + l * sum_by present c.insert_if.new.heap = c.insert_if.ensures.compares l b in
    omega (arith, i)
