use Rattle.std.proofs.Common.{◌≡◌, subst, sym, arith, ℕ, ◌+◌, ◌-◌, ◌*◌, ◌^◌, ◌<◌, ◌/◌, ◌%◌, bit_and}
use Rattle.std.proofs.Math.Facts.{Fits-of_lt}
use Rattle.sdmp_laws.specs.Order.{degree}
use Rattle.packed_monomial.specs.Fields.{fields}
use Rattle.packed_monomial.specs.Laws.{degree-fields, few_fields, degree-nil}
use Rattle.wide_monomial.specs.declared.layout.WideLayout.{WideLayout}
use Rattle.wide_monomial.specs.Packing.{bits_of, cut_is, masked}
use Rattle.wide_monomial.specs.Layouts.{layout_of}
use Rattle.wide_monomial.proofs.wide.WideMonomial.from_words.Goals as goal

pub overflow_add-sum : goal.overflow_add-sum
overflow_add-sum g c =
    let n : ℕ = g.row.N in
    let w : ℕ = c.join-word.result in
    let i : ℕ = c.loop-i.i in
    let P : WideLayout → Type 0 = λ l. c.loop-i.sum + bit_and (w / 2 ^ (i * l.bits)) (1 * 2 ^ l.bits % 2 ^ 128 - 1) < 2 ^ 128 in
    let e : P (layout_of n) = omega (arith, c.loop-i.invariant, masked n (w / 2 ^ (i * bits_of n)), few_fields (cut_is n) w i (omega arith)) in
    Fits-of_lt (subst P (sym c.of-layout.ensures) e)

pub loop-i-preserved : goal.loop-i-preserved
loop-i-preserved g c =
    let n : ℕ = g.row.N in
    let w : ℕ = c.join-word.result in
    let i : ℕ = c.loop-i.i in
    let P : WideLayout → Type 0 = λ l. c.loop-i.sum + bit_and (w / 2 ^ (i * l.bits)) (1 * 2 ^ l.bits % 2 ^ 128 - 1) ≡ degree (fields (bits_of n) (i + 1) w) in
    let e : P (layout_of n) = omega (arith, c.loop-i.invariant, masked n (w / 2 ^ (i * bits_of n)), degree-fields (bits_of n) i w) in
    subst P (sym c.of-layout.ensures) e

pub loop-i-init : goal.loop-i-init
loop-i-init g c = degree-nil
