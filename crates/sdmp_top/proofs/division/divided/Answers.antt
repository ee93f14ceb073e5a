use Rattle.std.proofs.Common.{refl}
use Rattle.division_laws.specs.Outcome.{division_of}
use Rattle.sdmp_top.specs.Work.{tally_of}
use Rattle.sdmp_top.proofs.WorkLemmas.{tallied_division}
use Rattle.sdmp_top.proofs.division.divided.Goals as goal

pub returns-in-Ok-clause-tallied : goal.returns-in-Ok-clause-tallied
returns-in-Ok-clause-tallied g c =
    tallied_division c.args.by.now.workers (division_of c.args.mode g.M.Monomial.order g.M.Monomial.VARS c.args.f.now c.args.g.now) c.in-Ok.field-0.last.terms
    (tally_of c.args.ends.now) _ c.in-Ok.ensures.terms c.add.ensures.divisions c.add.ensures.terms refl refl
