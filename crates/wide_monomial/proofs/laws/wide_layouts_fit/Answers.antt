use Rattle.wide_monomial.specs.Layouts.{layout_is}
use Rattle.wide_monomial.proofs.laws.wide_layouts_fit.Goals as goal

pub returns : goal.returns
returns c = layout_is
