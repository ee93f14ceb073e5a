use Rattle.std.proofs.Common.{refl}
use Rattle.sdmp_laws.specs.declared.Mode.TheVariants.{Remainder}
use Rattle.division_laws.specs.Outcome.{division}
use Rattle.sdmp_top.proofs.DivisionLemmas.{not_quotient, not_none}
use Rattle.sdmp_top.proofs.division.remainder.Goals as goal

pub unreachable-requires : goal.unreachable-requires
unreachable-requires g c =
    not_quotient (division Remainder g.M.Monomial.order g.M.Monomial.VARS c.args.f.now.modulus c.args.f.now.list c.args.g.now.list) c.in-Ok-Quotient.field-0 c.in-Ok-Quotient.field-0-0
    c.in-Ok-Quotient.field-0-is c.in-Ok-Quotient.ensures.answer refl

pub unreachable-requires-in-Ok-NoQuotient : goal.unreachable-requires-in-Ok-NoQuotient
unreachable-requires-in-Ok-NoQuotient g c =
    not_none (division Remainder g.M.Monomial.order g.M.Monomial.VARS c.args.f.now.modulus c.args.f.now.list c.args.g.now.list) c.in-Ok-NoQuotient.field-0 c.in-Ok-NoQuotient.field-0-is c.in-Ok-NoQuotient.ensures.answer refl

pub returns-in-Err-clause-refused : goal.returns-in-Err-clause-refused
returns-in-Err-clause-refused g c = c.fault_of.ensures (division Remainder g.M.Monomial.order g.M.Monomial.VARS c.args.f.now.modulus c.args.f.now.list c.args.g.now.list) c.in-Err.ensures.answer
