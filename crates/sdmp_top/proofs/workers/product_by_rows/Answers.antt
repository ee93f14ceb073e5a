use Rattle.std.proofs.Common.{refl}
use Rattle.mul_workers.specs.Products.{product_of}
use Rattle.sdmp_top.specs.Work.{tally_of}
use Rattle.sdmp_top.proofs.WorkLemmas.{tallied_product}
use Rattle.sdmp_top.proofs.workers.product_by_rows.Goals as goal

pub returns-in-Err-clause-refused : goal.returns-in-Err-clause-refused
returns-in-Err-clause-refused g c = c.fault_of.ensures _ _ _ _ c.in-Err.ensures.refusal

pub returns-in-Ok-clause-tallied : goal.returns-in-Ok-clause-tallied
returns-in-Ok-clause-tallied g c =
    tallied_product c.args.by.now.workers (product_of g.M.Monomial.order g.M.Monomial.VARS c.args.f.now c.args.g.now) c.in-Ok.field-0.last.notes
    (tally_of c.args.ends.now) _ c.in-Ok.ensures.notes c.add.ensures.products c.add.ensures.notes refl refl
