use Rattle.std.proofs.Common.{◌≡◌, subst, sym, ◌+◌, ◌-◌, ◌≤◌, bit_and, Fits, ◌↔◌}
use Rattle.std.specs.Int.{w128}
use Rattle.std.proofs.Math.Facts.{Fits-of_lt}
use Rattle.std.proofs.lemmas.Bool.{eqb-true, eq-eqb}
use Rattle.wide_monomial.specs.Packing.{vector_of, cut_is}
use Rattle.wide_monomial.specs.declared.layout.WideLayout.{WideLayout}
use Rattle.sdmp_laws.specs.Order.{Divides}
use Rattle.packed_monomial.specs.Laws.{test_is}
use Rattle.wide_monomial.proofs.wide.WideMonomial.divides.Goals as goal

pub overflow_add-result : goal.overflow_add-result
overflow_add-result g c =
    let t = test_is (cut_is g.row.N) c.args.self.word c.args.other.word c.args.self.packed c.args.other.packed c.requires.left c.requires.right in
    let P : WideLayout → Type 0 = λ l. Fits w128 (c.args.other.word + l.guards) in
    subst P (sym c.of-guards.ensures) (Fits-of_lt t.fits)

pub overflow_sub-result : goal.overflow_sub-result
overflow_sub-result g c =
    let t = test_is (cut_is g.row.N) c.args.self.word c.args.other.word c.args.self.packed c.args.other.packed c.requires.left c.requires.right in
    let P : WideLayout → Type 0 = λ l. c.args.self.word ≤ c.args.other.word + l.guards in
    subst P (sym c.of-guards.ensures) t.below

pub returns : goal.returns
returns g c =
    let t = test_is (cut_is g.row.N) c.args.self.word c.args.other.word c.args.self.packed c.args.other.packed c.requires.left c.requires.right in
    let P : WideLayout → Type 0 = λ l. (bit_and (c.args.other.word + l.guards - c.args.self.word) l.guards ≡ l.guards) ↔ Divides (vector_of g.row.N c.args.self.word) (vector_of g.row.N c.args.other.word) in
    let is = subst P (sym c.of-guards.ensures) t.test in
    (λ h. is.0 (eqb-true _ _ h), λ d. eq-eqb _ _ (is.1 d))
