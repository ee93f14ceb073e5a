use Rattle.packed_monomial.specs.Layouts.{layout_is}
use Rattle.packed_monomial.proofs.laws.layouts_fit.Goals as goal

pub returns : goal.returns
returns c = layout_is
