use Rattle.std.proofs.Common.{ap, ◌∙◌, arith}
use Rattle.sdmp_laws.specs.Order.{degree, zeros}
use Rattle.poly_text.proofs.ReadTerm.{no_exponents, packed, term_is}
use Rattle.poly_text.proofs.terms.read_term.Goals as goal

pub returns-clause-reads : goal.returns-clause-reads
returns-clause-reads g c = λ t rest total i s e m.
    let laws = g.met.M.Monomial g.world.𝓛 g.world.𝓜 g.world.𝓡 ((λ s x. x), (λ x. x), (λ x. x), λ x. x) in
    let names = c.args.names.now in
    let zero = no_exponents c.len.result 15 (omega (arith, c.len.ensures.len, c.len.ensures.list.few)) ∙ ap zeros c.len.ensures.len in
    term_is g.M.Monomial.vector g.R.CoeffRing.value names (g.R.CoeffRing.characteristic c.args.ring) g.M.Monomial.LIM c.args.bytes.now c.args.start.at c.args.start.negative t rest total c.args.sum c.saturating_add-sum.result
    _ c.read_product.new.exponents c.in_ok-read.read c.ok.result c.coefficient.result c.len.ensures.list.names (omega (arith, laws.limit_bound)) zero m (c.in_ok-read.ensures.reads t rest i s e) c.saturating_add-sum.ensures
    (packed g.M.Monomial.LIM (degree c.read_product.new.exponents) _ _ c.pack.result c.ok.result c.ok.ensures.value c.pack.ensures) c.coefficient.ensures.value
