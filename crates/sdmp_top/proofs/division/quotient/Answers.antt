use Rattle.std.proofs.Common.{refl}
use Rattle.sdmp_laws.specs.declared.Mode.TheVariants.{Exact}
use Rattle.division_laws.specs.Outcome.{division}
use Rattle.sdmp_top.proofs.DivisionLemmas.{not_remainder}
use Rattle.sdmp_top.proofs.division.quotient.Goals as goal

pub unreachable-requires : goal.unreachable-requires
unreachable-requires g c =
    not_remainder (division Exact g.M.Monomial.order g.M.Monomial.VARS c.args.f.now.modulus c.args.f.now.list c.args.g.now.list) c.in-Ok-Remainder.field-0 c.in-Ok-Remainder.field-0-0 c.in-Ok-Remainder.field-0-1
    c.in-Ok-Remainder.field-0-is c.in-Ok-Remainder.ensures.answer refl

pub returns-in-Err-clause-refused : goal.returns-in-Err-clause-refused
returns-in-Err-clause-refused g c = c.fault_of.ensures (division Exact g.M.Monomial.order g.M.Monomial.VARS c.args.f.now.modulus c.args.f.now.list c.args.g.now.list) c.in-Err.ensures.answer
