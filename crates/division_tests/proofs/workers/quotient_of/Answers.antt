use Rattle.std.proofs.Common.{sym, ap, ◌∙◌}
use Rattle.divide_merge.specs.Verdicts.{kept_of}
use Rattle.divide_merge.specs.Merges.{verdict_of}
use Rattle.division_tests.proofs.workers.quotient_of.Goals as goal

pub finish-quotient-requires-after_bounds : goal.finish-quotient-requires-after_bounds
unfolding kept_of
finish-quotient-requires-after_bounds g c κs within =
    c.advance-last.ensures.over ∙ ap (λ a. kept_of (verdict_of g.M.Monomial.vector g.R.CoeffRing.value a)) (sym c.in-Finished.ensures)
