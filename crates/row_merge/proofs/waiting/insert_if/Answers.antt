use Rattle.std.proofs.Common.{◌≡◌, ◌+◌, ◌*◌, ap, ◌∙◌, arith}
use Rattle.std.specs.List.{sum_by}
use Rattle.chained_heap.specs.Shape.{present}
use Rattle.row_merge.specs.Rows.{taken_rows}
use Rattle.row_merge.proofs.Counts.{present_in, taken_in}
use Rattle.row_merge.proofs.waiting.insert_if.Goals as goal

pub returns-then-open-clause-compares : goal.returns-then-open-clause-compares
returns-then-open-clause-compares g c = λ l b.
    let w = c.requires.within c.if-open.true in
    let e : sum_by present c.insert.new.self ≡ sum_by present c.args.heap.now + 1 = ap (sum_by present) c.insert.ensures.places ∙ present_in c.args.heap.now c.args.row c.times-mono.result w.2 w.3 in
    omega (arith, c.insert.ensures.compares l b, ap (λ q. l * q) e)

pub returns-then-open-clause-taken : goal.returns-then-open-clause-taken
returns-then-open-clause-taken g c =
    let w = c.requires.within c.if-open.true in
    ap taken_rows c.insert.ensures.places ∙ taken_in c.args.heap.now c.args.row c.times-mono.result w.2 w.3
