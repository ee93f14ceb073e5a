use Rattle.std.proofs.Common.{◌≡◌, subst, sym, ◌∙◌, arith, ℕ, ◌-◌, ◌*◌, ◌^◌, ◌<◌, ◌≤◌, ◌/◌, ◌%◌, bit_and, Fits, slice_index}
use Rattle.std.specs.Int.{w32, w64}
use Rattle.std.proofs.Math.Facts.{Fits-of_lt}
use Rattle.wide_monomial.specs.Packing.{vector_of, bits_of, cut_is, exponent-most, degree_small, length-vector_of, masked}
use Rattle.wide_monomial.specs.Layouts.{layout_of}
use Rattle.wide_monomial.specs.declared.layout.WideLayout.{WideLayout}
use Rattle.std.proofs.Math.Nat.{mul-le-mul_right}
use Rattle.sdmp_laws.specs.Order.{degree}
use Rattle.packed_monomial.specs.Laws.{shift_below, fields-at}
use Rattle.wide_monomial.proofs.wide.WideMonomial.exponent.Goals as goal

-- what the code reads is the exponent
read : (n w i : ℕ) → i < n → bit_and (w / 2 ^ ((n - 1 - i) * bits_of n)) (1 * 2 ^ bits_of n % 2 ^ 128 - 1) ≡ slice_index (vector_of n w) i
read n w i h = masked n (w / 2 ^ ((n - 1 - i) * bits_of n)) ∙ sym (fields-at (bits_of n) n w i h)

small : (n w i : ℕ) → i < n → degree (vector_of n w) ≤ 2 * (layout_of n).limit → bit_and (w / 2 ^ ((n - 1 - i) * bits_of n)) (1 * 2 ^ bits_of n % 2 ^ 128 - 1) < 2 ^ 32
small n w i h d =
    let most : slice_index (vector_of n w) i ≤ degree (vector_of n w) = exponent-most (vector_of n w) i (omega (arith, h, length-vector_of n w)) in
    omega (arith, read n w i h, most, degree_small n (degree (vector_of n w)) d)

within : (n i : ℕ) → (n - 1 - i) * bits_of n < 128
within n i = omega (arith, at_most (n - 1 - i) n (bits_of n) (omega arith), shift_below (cut_is n))
  where
    at_most : (k n b : ℕ) → k ≤ n → k * b ≤ n * b
    at_most k n b h = mul-le-mul_right b h

pub overflow_mul-field : goal.overflow_mul-field
overflow_mul-field g c =
    let P : WideLayout → Type 0 = λ l. Fits w64 ((g.row.N - 1 - c.args.i) * l.bits) in
    subst P (sym c.of-bits.ensures) (Fits-of_lt (omega (arith, within g.row.N c.args.i)))

pub overflow_shr-field : goal.overflow_shr-field
overflow_shr-field g c =
    let P : WideLayout → Type 0 = λ l. (g.row.N - 1 - c.args.i) * l.bits < 128 in
    subst P (sym c.of-bits.ensures) (within g.row.N c.args.i)

pub overflow_cast-result-2 : goal.overflow_cast-result-2
overflow_cast-result-2 g c =
    let n : ℕ = g.row.N in
    let w : ℕ = c.args.self.word in
    let P : WideLayout → Type 0 = λ l. Fits w32 (bit_and (w / 2 ^ ((n - 1 - c.args.i) * l.bits)) (1 * 2 ^ l.bits % 2 ^ 128 - 1)) in
    subst P (sym c.of-bits.ensures) (Fits-of_lt (small n w c.args.i c.requires c.args.self.packed.1))

pub returns : goal.returns
returns g c =
    let n : ℕ = g.row.N in
    let w : ℕ = c.args.self.word in
    let P : WideLayout → Type 0 = λ l. bit_and (w / 2 ^ ((n - 1 - c.args.i) * l.bits)) (1 * 2 ^ l.bits % 2 ^ 128 - 1) ≡ slice_index (vector_of n w) c.args.i in
    subst P (sym c.of-bits.ensures) (read n w c.args.i c.requires)
