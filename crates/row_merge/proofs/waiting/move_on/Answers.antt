use Rattle.std.proofs.Common.{ℕ, ◌+◌, ◌^◌, ◌<◌, length, get_or, arith, ltb-true, lt-ltb}
use Rattle.std.proofs.Math.Facts.{Fits-of_lt}
use Rattle.std.specs.List.{sum_by}
use Rattle.chained_heap.specs.Shape.{present}
use Rattle.canonical_terms.specs.View.{sum_of}
use Rattle.row_merge.proofs.Counts.{two_insertions}
use Rattle.row_merge.proofs.RowSteps.{moved_count}
use Rattle.row_merge.proofs.RowLists.{over_sum, long_sum}
use Rattle.row_merge.proofs.Popped.{popped_read, popped_top, may_open, may_follow, moved_on}
use Rattle.row_merge.proofs.waiting.move_on.Given as given
use Rattle.row_merge.proofs.waiting.move_on.Goals as goal
use Rattle.row_merge.proofs.waiting.move_on.Goals.{Start}

-- the row may read one more term
read_fits : (g : given.Over) (c : Start g) → get_or c.args.reads.now c.args.row 0 + 1 < 2 ^ 64
read_fits g c =
    let L = sum_of g.M.Monomial.vector g.R.CoeffRing.value c.args.learned.now in
    let rows = sum_of g.M.Monomial.vector g.R.CoeffRing.value c.args.rows.now in
    omega (arith, popped_read g.M.Monomial.vector g.M.Monomial.order L rows c.args.reads.now c.args.heap.now c.args.row c.requires.popped, popped_top g.M.Monomial.vector g.M.Monomial.order L rows c.args.reads.now c.args.heap.now c.args.row c.requires.popped, long_sum g.M.Monomial.vector g.R.CoeffRing.value c.args.learned.now, c.requires.long)

pub overflow_add-reads : goal.overflow_add-reads
overflow_add-reads g c = Fits-of_lt (read_fits g (goal.at.overflow_add-reads g c).Start)

pub overflow_add-read : goal.overflow_add-read
overflow_add-read g c = Fits-of_lt (read_fits g (goal.at.overflow_add-read g c).Start)

pub overflow_add-read-2 : goal.overflow_add-read-2
overflow_add-read-2 g c = Fits-of_lt (read_fits g (goal.at.overflow_add-read-2 g c).Start)

pub insert_if-requires-clause-within : goal.insert_if-requires-clause-within
insert_if-requires-clause-within g c κs within = λ o.
    let L = sum_of g.M.Monomial.vector g.R.CoeffRing.value c.args.learned.now in
    let rows = sum_of g.M.Monomial.vector g.R.CoeffRing.value c.args.rows.now in
    let q = may_open g.M.Monomial.vector g.M.Monomial.order g.M.Monomial.VARS L rows c.args.reads.now c.args.heap.now c.args.heap.now c.args.heap.now c.args.row (length c.args.learned.now) c.top_of-top.result ℕ ℕ
    c.requires.popped (long_sum g.M.Monomial.vector g.R.CoeffRing.value c.args.learned.now) c.top_of-top.ensures (ltb-true _ _ o) in
    (omega (arith, q.0, long_sum g.M.Monomial.vector g.R.CoeffRing.value c.args.rows.now), omega (arith, q.1, long_sum g.M.Monomial.vector g.R.CoeffRing.value c.args.learned.now), q.2, q.3)

pub insert_if-requires-2-clause-within : goal.insert_if-requires-2-clause-within
insert_if-requires-2-clause-within g c κs within = λ o.
    let L = sum_of g.M.Monomial.vector g.R.CoeffRing.value c.args.learned.now in
    let rows = sum_of g.M.Monomial.vector g.R.CoeffRing.value c.args.rows.now in
    let q = may_follow g.M.Monomial.vector g.M.Monomial.order g.M.Monomial.VARS L rows c.args.reads.now c.args.heap.now c.insert_if.new.heap c.insert_if.new.heap c.args.row (length c.args.learned.now) c.top_of-top.result _ ℕ
    c.requires.popped c.insert_if.ensures.moved (c.has_read-behind.ensures.0 o) in
    (omega (arith, q.0, long_sum g.M.Monomial.vector g.R.CoeffRing.value c.args.rows.now), omega (arith, q.1, long_sum g.M.Monomial.vector g.R.CoeffRing.value c.args.learned.now), q.2, q.3)

pub returns-clause-rows : goal.returns-clause-rows
returns-clause-rows g c =
    let monos = g.met.M.Monomial g.world.𝓛 g.world.𝓜 g.world.𝓡 ((λ s x. x), (λ x. x), (λ x. x), λ x. x) in
    let L = sum_of g.M.Monomial.vector g.R.CoeffRing.value c.args.learned.now in
    let rows = sum_of g.M.Monomial.vector g.R.CoeffRing.value c.args.rows.now in
    moved_on g.M.Monomial.vector g.M.Monomial.order g.M.Monomial.VARS L rows c.args.reads.now c.args.heap.now c.insert_if.new.heap c.insert_if-2.new.heap c.args.row (length c.args.learned.now) c.top_of-top.result _ _
    c.requires.rows_fall (over_sum g.M.Monomial.vector g.R.CoeffRing.value g.M.Monomial.VARS monos.vars c.args.rows.now) c.requires.learned_fall (over_sum g.M.Monomial.vector g.R.CoeffRing.value g.M.Monomial.VARS monos.vars c.args.learned.now)
    c.requires.popped (long_sum g.M.Monomial.vector g.R.CoeffRing.value c.args.learned.now) c.top_of-top.ensures (λ o. ltb-true _ _ o) (λ l. lt-ltb _ _ l) c.has_read-behind.ensures.0 c.has_read-behind.ensures.1 c.insert_if.ensures.moved c.insert_if-2.ensures.moved

pub returns-clause-compares : goal.returns-clause-compares
returns-clause-compares g c = λ l b.
    two_insertions l c.args.steps.now.compares c.insert_if.new.steps.compares c.insert_if-2.new.steps.compares (sum_by present c.args.heap.now) (sum_by present c.insert_if.new.heap) (sum_by present c.insert_if-2.new.heap)
    (c.insert_if.ensures.compares l b) (c.insert_if-2.ensures.compares l (omega (arith, b, moved_count g.M.Monomial.vector c.args.row _ _ c.args.heap.now c.insert_if.new.heap c.insert_if.ensures.moved)))
