use Rattle.std.proofs.Common.{◌≡◌, subst, sym, ap, ◌∙◌, arith, ℕ, ◌+◌, ◌-◌, ◌*◌, ◌^◌, ◌<◌, ◌≤◌, ◌/◌, ◌%◌, bit_and, slice_index}
use Rattle.std.proofs.Math.Facts.{Fits-of_lt}
use Rattle.std.proofs.Math.Nat.{mod-eq_of_lt}
use Rattle.sdmp_laws.specs.Order.{degree}
use Rattle.wide_monomial.specs.declared.layout.WideLayout.{WideLayout}
use Rattle.wide_monomial.specs.Layouts.{layout_of}
use Rattle.wide_monomial.specs.Packing.{bits_of, cut_is, masked, exponent-most, degree_small}
use Rattle.wide_monomial.specs.Sums.{IsRevWide, rev_vector_of, field}
use Rattle.wide_monomial.specs.SumsFields.{length-sums_vector}
use Rattle.wide_monomial.specs.SumsLaws.{exponent_is, up_below}
use Rattle.packed_monomial.specs.Laws.{shift_within}
use Rattle.wide_monomial.proofs.rev_wide.RevWideMonomial.exponent.Goals as goal

-- the field at the place, and the one before it, as the code reads them
abbrev here : WideLayout → ℕ → ℕ → ℕ
here l w i = bit_and (w / 2 ^ (i * l.bits)) (1 * 2 ^ l.bits % 2 ^ 128 - 1)

abbrev before : WideLayout → ℕ → ℕ → ℕ
before l w i = bit_and (w * 2 ^ l.bits % 2 ^ 128 / 2 ^ (i * l.bits)) (1 * 2 ^ l.bits % 2 ^ 128 - 1)

reads : (n w i : ℕ) → IsRevWide n w → i < n → here (layout_of n) w i ≡ before (layout_of n) w i + slice_index (rev_vector_of n w) i
reads n w i p h =
    let b : ℕ = bits_of n in
    let whole : w * 2 ^ b % 2 ^ 128 ≡ w * 2 ^ b = mod-eq_of_lt (up_below (cut_is n) w p) in
    let low : before (layout_of n) w i ≡ field b (w * 2 ^ b) i = masked n (w * 2 ^ b % 2 ^ 128 / 2 ^ (i * b)) ∙ ap (λ k. field b k i) whole in
    masked n (w / 2 ^ (i * b)) ∙ exponent_is (cut_is n) w i p h ∙ ap (λ k. k + slice_index (rev_vector_of n w) i) (sym low)

read : (n w i : ℕ) (l : WideLayout) → l ≡ layout_of n → IsRevWide n w → i < n → here l w i ≡ before l w i + slice_index (rev_vector_of n w) i
read n w i l e p h = subst (λ k. here k w i ≡ before k w i + slice_index (rev_vector_of n w) i) (sym e) (reads n w i p h)

small : (n w i : ℕ) → IsRevWide n w → i < n → slice_index (rev_vector_of n w) i < 2 ^ 32
small n w i p h =
    let most : slice_index (rev_vector_of n w) i ≤ degree (rev_vector_of n w) = exponent-most (rev_vector_of n w) i (omega (arith, h, length-sums_vector (bits_of n) n w)) in
    omega (arith, most, degree_small n (degree (rev_vector_of n w)) p.1)

within : (n i : ℕ) (l : WideLayout) → l ≡ layout_of n → i < n → i * l.bits < 128
within n i l e h = subst (λ k. i * k.bits < 128) (sym e) (shift_within (cut_is n) i (omega (arith, h)))

pub overflow_shr-field : goal.overflow_shr-field
overflow_shr-field g c = within g.row.N c.args.i c.of-bits.result c.of-bits.ensures c.requires

pub overflow_shr-before : goal.overflow_shr-before
overflow_shr-before g c = within g.row.N c.args.i c.of-bits.result c.of-bits.ensures c.requires

pub overflow_sub-result : goal.overflow_sub-result
overflow_sub-result g c = omega (arith, read g.row.N c.args.self.word c.args.i c.of-bits.result c.of-bits.ensures c.args.self.packed c.requires)

pub overflow_cast-result : goal.overflow_cast-result
overflow_cast-result g c =
    Fits-of_lt (omega (arith, read g.row.N c.args.self.word c.args.i c.of-bits.result c.of-bits.ensures c.args.self.packed c.requires, small g.row.N c.args.self.word c.args.i c.args.self.packed c.requires))

pub returns : goal.returns
returns g c = omega (arith, read g.row.N c.args.self.word c.args.i c.of-bits.result c.of-bits.ensures c.args.self.packed c.requires)
